-- The moment of a change at the end of a history.
use Rattle.std.proofs.Common.{◌≡◌, ℕ, suc, ◌-◌, ◌==◌, max, true, false, cond, List, [], ◌∷◌, length, slice_get, Option, Some, None, refl, sym, ◌∙◌, ap, arith}
use Rattle.std.specs.Option.{option_map_or}
use Rattle.std.proofs.lemmas.Bool.Decides.{nat_tests}
use Rattle.pod_base.specs.declared.moment.Moment.{Moment}
use Rattle.pod_base.specs.declared.moment.Stamp.{Stamp}
use Rattle.pod_command.specs.declared.entry.Entry.{Entry}
use Rattle.pod_core.specs.History.{History, end_of, moment_before, seconds_of}
use Rattle.pod_core.specs.KeeperSteps.{stamp_at_end}
use Rattle.pod_keeper.specs.Commits.{later}
use Rattle.pod_records.specs.Records.{last_after}

-- the last of some entries
record HasLast (last : Option Moment) (one : Entry) (more : List Entry) : Type 0 where
  found : Entry
  there : slice_get (one ∷ more) (length more) ≡ Some found
  moment : last_after last (one ∷ more) ≡ Some found.moment

has_last : (last : Option Moment) (one : Entry) (more : List Entry) → HasLast last one more
has_last last one [] = record { found = one; there = refl; moment = refl }
has_last last one (two ∷ more) =
    let rest = has_last (Some one.moment) two more in record { found = rest.found; there = rest.there; moment = rest.moment }

-- the greater of two moments
abbrev with_greater : Stamp → ℕ → Stamp
with_greater stamp seconds = record stamp { moment = record { 0 = max stamp.moment.0 seconds } }

greater_zero : (stamp : Stamp) → stamp ≡ with_greater stamp 0
greater_zero stamp =
    let same : stamp.moment.0 ≡ max stamp.moment.0 0 = omega arith in
    ap (λ n. record stamp { moment = record { 0 = n } }) same

-- the moment before the end is that of the last entry
moment_is : (history : History) (one : Entry) (more : List Entry) (found : Entry) → history.entries ≡ one ∷ more → slice_get (one ∷ more) (length more) ≡ Some found → moment_before history (end_of history) ≡ found.moment.0
moment_is history one more found are there =
    let end = end_of history in
    let count : length history.entries ≡ suc (length more) = ap length are in
    let place : end - 1 - history.start ≡ length more = omega (arith, count) in
    let is : slice_get history.entries (end - 1 - history.start) ≡ Some found = ap (λ k. slice_get history.entries k) place ∙ (ap (λ (l : List Entry). slice_get l (length more)) are ∙ there) in
    elim (end == history.start) as (λ b. (end == history.start) ≡ b → cond b 0 (option_map_or seconds_of (slice_get history.entries (end - 1 - history.start)) 0) ≡ found.moment.0) [
      | true ↦ λ e.
          let none : end ≡ history.start = grind (arith, nat_tests) in
          absurd (omega (arith, count, none))
      | false ↦ λ e. ap (λ o. option_map_or seconds_of o 0) is
    ] refl

moment_of_none : (history : History) → history.entries ≡ [] → moment_before history (end_of history) ≡ 0
moment_of_none history none =
    let end = end_of history in
    let count : length history.entries ≡ 0 = ap length none in
    elim (end == history.start) as (λ b. (end == history.start) ≡ b → cond b 0 (option_map_or seconds_of (slice_get history.entries (end - 1 - history.start)) 0) ≡ 0) [
      | true ↦ λ e. refl
      | false ↦ λ e.
          let other : end ≡ history.start → ⊥ = λ same. grind (arith, nat_tests) in
          absurd (other (omega (arith, count)))
    ] refl

later_as : (history : History) (entries : List Entry) → history.entries ≡ entries → (stamp : Stamp) → later stamp (last_after None entries) ≡ stamp_at_end history stamp
later_as history [] are stamp = greater_zero stamp ∙ ap (with_greater stamp) (sym (moment_of_none history are))
later_as history (one ∷ more) are stamp =
    let last = has_last None one more in
    ap (later stamp) last.moment ∙ ap (with_greater stamp) (sym (moment_is history one more last.found are last.there))

-- what the keeper's last moment makes of a stamp is the stamp at the end
pub later_at_end : (history : History) (last : Option Moment) (stamp : Stamp) → last ≡ last_after None history.entries → later stamp last ≡ stamp_at_end history stamp
later_at_end history last stamp is = ap (later stamp) is ∙ later_as history history.entries refl stamp
