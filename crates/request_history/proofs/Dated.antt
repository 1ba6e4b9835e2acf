-- The date of a moment, and the statuses of refusals.
use Rattle.std.proofs.Common.{◌≡◌, ◌⊎◌, inl, inr, ℕ, ◌<◌, ◌≤◌, List, [], ◌∷◌, ◌++◌, subst, ◌∙◌, arith}
use Rattle.std.specs.List.{AllByRecursion}
use Rattle.http_conn.specs.Messages.{HasRefusalStatus, IsRefusalStatus, Messages}
use Rattle.http_out.specs.Dates.{IsDateOf}
use Rattle.http_out.proofs.CalendarLemmas.{date_is}
use Rattle.http_out.specs.Calendar.{date_text}
use Rattle.pod_base.specs.declared.heard.Heard.{Heard}
use Rattle.pod_base.specs.declared.heard.Heard.TheVariants as heard
use Rattle.pod_core.specs.World.{Connection, IsNextEvent}

-- the date of a moment is its text
pub dated : (moment : ℕ) (date : List ℕ) → IsDateOf moment date → date ≡ date_text moment
dated moment date d = d.2 ∙ date_is d.0 moment d.1

abbrev pub HaveRefusalStatuses : Type 0
HaveRefusalStatuses = (text : List ℕ) (events : List Heard) (rest : ℕ) → Messages text events rest → AllByRecursion HasRefusalStatus events

middle : (done later : List Heard) (status : ℕ) → AllByRecursion HasRefusalStatus (done ++ heard.Bad status ∷ later) → IsRefusalStatus status
middle [] later status h = h.0
middle (event ∷ done) later status h = middle done later status h.1

has_three_digits : (status : ℕ) → IsRefusalStatus status → (100 ≤ status) × (status < 600)
has_three_digits status (inl e) = (omega (arith, e), omega (arith, e))
has_three_digits status (inr (inl e)) = (omega (arith, e), omega (arith, e))
has_three_digits status (inr (inr (inl e))) = (omega (arith, e), omega (arith, e))
has_three_digits status (inr (inr (inr e))) = (omega (arith, e), omega (arith, e))

pub refusal_range : HaveRefusalStatuses → (connection : Connection) (status : ℕ) → IsNextEvent connection (heard.Bad status) → (100 ≤ status) × (status < 600)
refusal_range law connection status n =
    has_three_digits status (middle connection.done n.later status (law connection.input (connection.done ++ heard.Bad status ∷ n.later) n.rest n.events))
