-- What holds of every reply of a pod.
use Rattle.std.specs.Prelude.{◌≡◌, ℕ, ◌&&◌, is_some}
use Rattle.pod_base.specs.declared.method.Method.{Method}
use Rattle.pod_base.specs.declared.moment.Stamp.{Stamp}
use Rattle.pod_base.specs.declared.request.Request.{Request}
use Rattle.pod_reply.specs.Replies.{Reply}
use Rattle.pod_reply.specs.Reply.{IsReply, agent_of}
use Rattle.pod_rows.specs.Pod.{Pod}
use Rattle.reply_laws.specs.Alike.{Alike}
use Rattle.reply_laws.specs.Granted.{is_change}
use Rattle.reply_laws.specs.Laws.{is_success}
use Rattle.token_table.specs.Credentials.{AskedAgent}

-- A change that succeeded has an entry, and nothing else has one.
abbrev pub IsComplete : Method → Reply → Type 0
IsComplete method reply =
    is_some reply.entry ≡ (is_change method && is_success reply.response.status)

-- It is the reply of each pod that is alike for the agent, too.
abbrev pub IsReplyOfAlike : Pod → Request → AskedAgent → ℕ → Stamp → Reply → Type 0
IsReplyOfAlike pod request asked seq stamp reply = (other : Pod) → Alike (agent_of asked) pod other
    → IsReply other request asked seq stamp reply
