-- What follows from the definitions. The law is the contract of a function of `laws`.
use Rattle.std.specs.Prelude.{◌≡◌, ℕ}
use Rattle.pod_base.specs.declared.moment.Stamp.{Stamp}
use Rattle.pod_base.specs.declared.request.Request.{Request}
use Rattle.pod_rows.specs.Pod.{Pod}
use Rattle.token_table.specs.Credentials.{AskedAgent}
use Rattle.pod_reply.specs.Replies.{Reply}
use Rattle.pod_reply.specs.Reply.{IsReply}

-- A pod has at most one reply to a request.
abbrev pub HasOneReply : Type 0
HasOneReply = (pod : Pod) (request : Request) (asked : AskedAgent) (seq : ℕ) (stamp : Stamp)
    (a b : Reply) → IsReply pod request asked seq stamp a → IsReply pod request asked seq stamp b
    → a ≡ b
