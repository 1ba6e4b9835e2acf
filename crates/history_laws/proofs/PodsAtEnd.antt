-- The pod at the end of a history, and the entries of items after it.
use Rattle.std.proofs.Common.{◌≡◌, ℕ, ◌+◌, ◌-◌, ◌≤◌, if◌then◌else◌, List, [], ◌∷◌, ◌++◌, length, slice_get, Option, Some, None, is_some, IfSome, refl, sym, ap, subst, append_assoc, length-append, arith}
use Rattle.std.specs.List.{flat_map}
use Rattle.std.specs.Option.{option_to_list}
use Rattle.std.proofs.lemmas.List.{append-nil}
use Rattle.pod_command.specs.declared.entry.Entry.{Entry}
use Rattle.pod_core.proofs.Histories.{pod_at_end}
use Rattle.pod_core.specs.History.{History, IsHistory, IsPlace, end_of, entry_at, longer, pod_at}
use Rattle.pod_core.specs.Session.{Item, NeverFalls, Outcome, answered, disk_fault, entries_of, entries_on, no_memory, places_of, places_on}
use Rattle.pod_rows.specs.Apply.{AllApply, applied, replayed, with_rows_if}
use Rattle.pod_rows.specs.Pod.{Pod}
use Rattle.pod_rows.specs.WellFormed.{WellFormed}

-- ---- well-formed pods

pub first_apply : (pod : Pod) (next : ℕ) (entries more : List Entry) → AllApply pod next (entries ++ more) → AllApply pod next entries
first_apply pod next [] more h = tt
first_apply pod next (entry ∷ entries) more h = (h.0, first_apply (applied pod entry) (next + 1) entries more h.1)

replayed_well : (pod : Pod) (next : ℕ) (entries : List Entry) → WellFormed pod → AllApply pod next entries → WellFormed (replayed pod entries)
replayed_well pod next [] w h = w
replayed_well pod next (entry ∷ entries) w h =
    replayed_well (applied pod entry) (next + 1) entries (subst WellFormed (sym (ap (with_rows_if pod) h.0.edits)) h.0.well_formed) h.1

pub well_formed_at_end : (history : History) → IsHistory history → WellFormed (pod_at history (end_of history))
well_formed_at_end history h =
    subst WellFormed (sym (pod_at_end history)) (replayed_well history.first history.start history.entries h.well_formed h.apply)

-- a history without its last entries
pub shorter : (history : History) (more : List Entry) → IsHistory (longer history more) → IsHistory history
shorter history more h = record { well_formed = h.well_formed; apply = first_apply history.first history.start history.entries more h.apply }

-- ---- a history with more entries

pub end_is_place : (history : History) → IsPlace history (end_of history)
end_is_place history = record { from = omega arith; to = omega arith }

pub same_history : (history : History) → longer history [] ≡ history
same_history history = ap (λ (entries : List Entry). record history { entries = entries }) (append-nil history.entries)

pub longer_again : (history : History) (entries more : List Entry) → longer (longer history entries) more ≡ longer history (entries ++ more)
longer_again history entries more = ap (λ (all : List Entry). record history { entries = all }) (append_assoc history.entries entries more)

-- the first entry that is added stands at the end
slice_get_middle : {A : Type 0} (xs ys : List A) (x : A) → slice_get (xs ++ x ∷ ys) (length xs) ≡ Some x
slice_get_middle [] ys x = refl
slice_get_middle (y ∷ xs) ys x = slice_get_middle xs ys x

pub stands_first : (history : History) (o : Option Entry) (more : List Entry) → IfSome o (λ entry. entry_at (longer history (option_to_list o ++ more)) (end_of history) ≡ Some entry)
stands_first history None more = tt
stands_first history (Some entry) more =
    let count : end_of history - history.start ≡ length history.entries = omega arith in
    rw count (slice_get_middle history.entries more entry)

-- ---- the places of items

-- the places after that of an answer, and its entry
pub places_then : (n after : ℕ) (o : Option Entry) (places : List ℕ) → NeverFalls n ((if is_some o then (n + 1) ∷ [] else []) ++ places) after → NeverFalls (n + length (option_to_list o)) places after
places_then n after None places h = subst (λ m. NeverFalls m places after) (omega arith) h
places_then n after (Some entry) places h = h.1

-- each entry takes a place
counts_on : (o : Outcome) (before after : ℕ) (places : List ℕ) (more : List Entry) → ((m : ℕ) → NeverFalls m places after → m + length more ≤ after)
    → NeverFalls before (places_on o ++ places) after → before + length (entries_on o ++ more) ≤ after
counts_on (answered n reply) before after places more rest h =
    let next = rest (n + length (option_to_list reply.entry)) (places_then n after reply.entry places h.1) in
    omega (arith, h.0, next, length-append (option_to_list reply.entry) more)
counts_on no_memory before after places more rest h = rest before h
counts_on disk_fault before after places more rest h = rest before h

pub counts_entries : (items : List Item) (before after : ℕ) → NeverFalls before (flat_map places_of items) after → before + length (flat_map entries_of items) ≤ after
counts_entries [] before after h = omega (arith, h)
counts_entries (item ∷ items) before after h =
    counts_on item.outcome before after (flat_map places_of items) (flat_map entries_of items) (λ m. counts_entries items m after) h

-- An answer of items that fill all places up to the end is given at the first of these.
pub place_is_first : (n before after : ℕ) (o : Option Entry) (items : List Item) → before ≤ n → NeverFalls n ((if is_some o then (n + 1) ∷ [] else []) ++ flat_map places_of items) after
    → after ≡ before + length (option_to_list o ++ flat_map entries_of items) → n ≡ before
place_is_first n before after o items le h is =
    let next = counts_entries items (n + length (option_to_list o)) after (places_then n after o (flat_map places_of items) h) in
    omega (arith, le, next, is, length-append (option_to_list o) (flat_map entries_of items))
