-- What a pod replies to an agent's request is what each pod alike for the agent replies.
use Rattle.std.specs.Prelude.{◌≡◌, ℕ, List}
use Rattle.pod_base.specs.declared.agent.Agent.{Agent}
use Rattle.pod_base.specs.declared.moment.Stamp.{Stamp}
use Rattle.pod_base.specs.declared.request.Request.{Request}
use Rattle.pod_command.specs.declared.entry.Entry.{Entry}
use Rattle.pod_rows.specs.Apply.{Applies, applied}
use Rattle.pod_rows.specs.Pod.{Pod, row_at}
use Rattle.pod_rows.specs.WellFormed.{WellFormed}
use Rattle.token_table.specs.Credentials.{AskedAgent}
use Rattle.pod_reply.specs.Replies.{Reply}
use Rattle.pod_reply.specs.Reply.{IsReply, agent_of}
use Rattle.reply_laws.specs.Alike.{Alike, IsHidden}

abbrev pub RepliesAlike : Type 0
RepliesAlike = (p q : Pod) (request : Request) (asked : AskedAgent) (seq : ℕ) (stamp : Stamp)
    (reply : Reply)
    → WellFormed p → Alike (agent_of asked) p q
    → IsReply p request asked seq stamp reply → IsReply q request asked seq stamp reply

-- After an entry that applies to both, what was the same at a path is the same there.
abbrev pub ChangesAlike : Type 0
ChangesAlike = (p q : Pod) (seq : ℕ) (entry : Entry) (path : List ℕ)
    → Applies p seq entry → Applies q seq entry → row_at p.rows path ≡ row_at q.rows path
    → row_at (applied p entry).rows path ≡ row_at (applied q entry).rows path

-- What is hidden at a path in two pods is so after an entry too.
abbrev pub StaysHidden : Agent → Pod → Pod → Entry → Type 0
StaysHidden agent p q entry = (path : List ℕ) → IsHidden agent p path → IsHidden agent q path
    → IsHidden agent (applied p entry) path × IsHidden agent (applied q entry) path

-- Alike pods stay alike by an entry of both, while what is hidden stays hidden.
abbrev pub StayAlike : Type 0
StayAlike = (agent : Agent) (p q : Pod) (seq : ℕ) (entry : Entry) → Alike agent p q
    → Applies p seq entry → Applies q seq entry → StaysHidden agent p q entry
    → Alike agent (applied p entry) (applied q entry)
