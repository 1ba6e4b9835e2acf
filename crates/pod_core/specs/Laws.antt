-- What follows from the definitions.
use Rattle.std.specs.Prelude.{◌≡◌, ℕ, List, [], ◌∷◌, Option}
use Rattle.pod_base.specs.declared.heard.Heard.{Heard}
use Rattle.pod_base.specs.declared.request.Request.{Request}
use Rattle.pod_command.specs.declared.entry.Entry.{Entry}
use Rattle.token_table.specs.Credentials.{AskedAgent}
use Rattle.pod_core.specs.History.{longer}
use Rattle.pod_core.specs.Output.{output_of}
use Rattle.pod_core.specs.Session.{Outcome, answered, no_memory, disk_fault, Item, Session}
use Rattle.pod_core.specs.Session.{IsSession}

-- the session over its history with more entries
abbrev pub in_longer : Session → List Entry → Session
in_longer session more = record session { history = longer session.history more }

-- A session stays one where its history grows.
abbrev pub StaysSession : (ℕ → Type 0) → Type 0
StaysSession may_give =
    (asking : Request
    → AskedAgent) (events : List Heard) (before : ℕ) (session : Session) (after : ℕ)
    (more : List Entry) → IsSession may_give asking events before session after
    → IsSession may_give asking events before (in_longer session more) after

-- both ended with the same response, or with the same fixed text
abbrev pub EndsAlike : Outcome → Outcome → Type 0
EndsAlike (answered place reply) (answered other replied) = reply.response ≡ replied.response
EndsAlike no_memory no_memory = Unit {0}
EndsAlike disk_fault disk_fault = Unit {0}
EndsAlike _ _ = ⊥

-- the same request was answered alike at the same moment, at whatever places
pub record AnsweredAlike (item other : Item) : Type 0 where
  pub request : item.request ≡ other.request
  pub number : item.number ≡ other.number
  pub moment : item.moment ≡ other.moment
  pub outcome : EndsAlike item.outcome other.outcome

abbrev pub AllAnsweredAlike : List Item → List Item → Type 0
AllAnsweredAlike [] [] = Unit {0}
AllAnsweredAlike (item ∷ items) (other ∷ others) =
    AnsweredAlike item other × AllAnsweredAlike items others
AllAnsweredAlike _ _ = ⊥

-- Equal responses at equal moments have equal bytes.
abbrev pub AlikeWritesSame : Type 0
AlikeWritesSame = (events : List Heard) (items others : List Item) (refused : Option ℕ)
    → AllAnsweredAlike items others → output_of events items refused
    ≡ output_of events others refused
