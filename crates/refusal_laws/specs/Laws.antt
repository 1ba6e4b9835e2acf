-- Paired runs keep alike pods alike, and their agent sees the same.
use Rattle.std.specs.Prelude.{◌≡◌, ℕ, Bool, List, [], ◌∷◌}
use Rattle.http_out.specs.Text.{response_text}
use Rattle.http_out.specs.Calendar.{date_text}
use Rattle.pod_base.specs.declared.agent.Agent.{Agent}
use Rattle.pod_reply.specs.Replies.{Reply}
use Rattle.pod_rows.specs.Pod.{Pod, row_at}
use Rattle.pod_rows.specs.WellFormed.{WellFormed}
use Rattle.reply_laws.specs.Alike.{Alike}
use Rattle.refusal_laws.specs.PairedRuns.{ArePutsOfAnother, IsPairedTurn, PairedRuns, Step, Turn}
use Rattle.refusal_laws.specs.PairedRuns.{agent_in, pod_after}

-- the bytes of a reply to a step, on a connection that closes then or doesn't
abbrev pub reply_bytes : Step → Reply → Bool → List ℕ
reply_bytes step reply close =
    response_text reply.response (date_text step.stamp.moment.0) close

-- the replies to both steps are the same, byte for byte
pub record IsSameReply (turn : Turn) : Type 0 where
  pub reply : turn.left_reply ≡ turn.right_reply
  pub bytes : (close : Bool) → reply_bytes turn.left turn.left_reply close
      ≡ reply_bytes turn.right turn.right_reply close

-- The pods are alike before each turn and after the last one, and each step of the agent has the
-- same reply in both runs.
abbrev pub StayAlike : Agent → Pod → Pod → List Turn → Type 0
StayAlike agent p q [] = Alike agent p q
StayAlike agent p q (turn ∷ turns) = Alike agent p q
    × (agent_in turn.left ≡ agent → IsSameReply turn)
    × StayAlike agent (pod_after p turn.left_reply) (pod_after q turn.right_reply) turns

-- Paired runs from alike pods stay alike.
abbrev pub PairedRunsStayAlike : Type 0
PairedRunsStayAlike = (agent : Agent) (p q : Pod) (next : ℕ) (turns : List Turn)
    → WellFormed p → WellFormed q → Alike agent p q → PairedRuns agent p q next turns
    → StayAlike agent p q turns

-- After two PUTs of another agent, of one moment, what was the same at another path than theirs is
-- the same.
abbrev pub PutsChangeOnePath : Type 0
PutsChangeOnePath = (agent : Agent) (p q : Pod) (next : ℕ) (turn : Turn)
    → WellFormed p → WellFormed q → Alike agent p q → IsPairedTurn agent p q next turn
    → (puts : ArePutsOfAnother agent p q turn.left turn.right)
    → turn.left.stamp.moment ≡ turn.right.stamp.moment
    → (path : List ℕ) → (path ≡ puts.path → ⊥) → row_at p.rows path ≡ row_at q.rows path
    → row_at (pod_after p turn.left_reply).rows path
    ≡ row_at (pod_after q turn.right_reply).rows path
