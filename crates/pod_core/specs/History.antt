-- A history of a pod: the pod that it begins with, and the entries that were made since. Place n is
-- the point before the entry with number n.
use Rattle.std.specs.Prelude.{ℕ, ◌+◌, ◌-◌, ◌==◌, ◌≤◌, if◌then◌else◌, List, ◌++◌, length, slice_get}
use Rattle.std.specs.Prelude.{Option}
use Rattle.std.specs.Option.{option_map_or}
use Rattle.pod_command.specs.declared.entry.Entry.{Entry}
use Rattle.pod_rows.specs.Apply.{AllApply, replay}
use Rattle.pod_rows.specs.Pod.{Pod}
use Rattle.pod_rows.specs.WellFormed.{WellFormed}

-- the first pod, the number of the first entry, and the entries
pub record History : Type 0 where
  pub first : Pod
  pub start : ℕ
  pub entries : List Entry

-- The first pod is well-formed, and each entry applies after those before it.
pub record IsHistory (history : History) : Type 0 where
  pub well_formed : WellFormed history.first
  pub apply : AllApply history.first history.start history.entries

-- the place after all entries
abbrev pub end_of : History → ℕ
end_of history = history.start + length history.entries

-- the pod at a place
abbrev pub pod_at : History → ℕ → Pod
pod_at history place = replay history.first history.entries (place - history.start)

-- the entry at a place from the first one on
abbrev pub entry_at : History → ℕ → Option Entry
entry_at history place = slice_get history.entries (place - history.start)

-- a place of the history
pub record IsPlace (history : History) (place : ℕ) : Type 0 where
  pub from : history.start ≤ place
  pub to : place ≤ end_of history

abbrev pub seconds_of : Entry → ℕ
seconds_of entry = entry.moment.0

-- The moment of the entry before a place, 0 where there is none.
abbrev pub moment_before : History → ℕ → ℕ
moment_before history place = if place == history.start then 0
    else option_map_or seconds_of (entry_at history (place - 1)) 0

-- the same history with more entries
abbrev pub longer : History → List Entry → History
longer history more = record history { entries = history.entries ++ more }
