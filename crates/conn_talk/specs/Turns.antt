-- One request of a connection, answered: one item of its session more.
use Rattle.std.specs.Prelude.{◌≡◌, ℕ, Bool, Result, Ok, Err}
use Rattle.pod_base.specs.declared.moment.Stamp.{Stamp}
use Rattle.pod_base.specs.declared.request.Request.{Request}
use Rattle.pod_core.specs.Session.{Item, answered, disk_fault, no_memory}
use Rattle.pod_reply.specs.Replies.{Reply}
use Rattle.token_table.specs.Credentials.{AskedAgent}
use Rattle.pod_core.specs.declared.request_answer.Answer.{Answer}
use Rattle.conn_talk.specs.declared.answers.AnswerFault.{AnswerFault}
use Rattle.conn_talk.specs.declared.answers.AnswerFault.TheVariants.{NoMemory, DiskFault, NoPlace}

-- the item of a request with this stamp
pub record IsItemOf (request : Request) (asked : AskedAgent) (stamp : Stamp) (item : Item)
    : Type 0 where
  pub request_is : item.request ≡ request
  pub number_is : item.number ≡ stamp.number
  pub asked_is : item.asked ≡ asked

-- The answer is that of the item: the place and the response of its reply, and its moment.
pub record IsAnswerOf (item : Item) (answer : Answer) : Type 0 where
  pub reply : Reply
  pub outcome_is : item.outcome ≡ answered answer.place reply
  pub response_is : answer.response ≡ reply.response
  pub moment_is : answer.moment.0 ≡ item.moment

-- What a call returned for a request: the answer of one item of which `turned` holds; a fault that
-- is the outcome of such an item; or that it had no place, and then it has no item, and `passed`
-- holds.
abbrev pub CameTo : (Item → Type 0) → Type 0 → Request → AskedAgent → Stamp
    → Result Answer AnswerFault → Type 0
CameTo turned passed request asked stamp (Ok answer) =
    (item : Item) × IsItemOf request asked stamp item × IsAnswerOf item answer × turned item
CameTo turned passed request asked stamp (Err NoMemory) =
    (item : Item) × IsItemOf request asked stamp item × (item.outcome ≡ no_memory) × turned item
CameTo turned passed request asked stamp (Err DiskFault) =
    (item : Item) × IsItemOf request asked stamp item × (item.outcome ≡ disk_fault) × turned item
CameTo turned passed request asked stamp (Err NoPlace) = passed

-- What the items of one connection rest on: its number, the moments that the clock may give, how
-- requests are authenticated, whether the trail is enabled, and of what answers requests, before
-- and after one: what an item says of it at a moment of the clock, by the connection's number, and
-- what a request without a place says of it.
pub record Rules (A : Type 0) : Type 1 where
  pub conn : ℕ
  pub may_give : ℕ → Type 0
  pub asking : Request → AskedAgent
  pub trails : Bool
  pub turns : ℕ → ℕ → A → Item → A → Type 0
  pub passes : Request → A → A → Type 0
