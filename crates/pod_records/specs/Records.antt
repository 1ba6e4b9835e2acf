-- What the records of a journal hold: a snapshot, and the entries made since.
use Rattle.std.specs.Prelude.{◌≡◌, ℕ, ◌==◌, if◌then◌else◌, List, [], ◌∷◌, map, Option, Some}
use Rattle.std.specs.List.{AllByRecursion}
use Rattle.pod_base.specs.declared.moment.Moment.{Moment}
use Rattle.stored_forms.specs.Storable.{IsStorable, IsStorableSnapshot}
use Rattle.stored_forms.specs.StoredForms.{entry_1_bytes, entry_bytes, snapshot_bytes}
use Rattle.pod_command.specs.declared.entry.Entry.{Entry}
use Rattle.pod_command.specs.declared.snapshot.Snapshot.{Snapshot}
use Rattle.pod_rows.specs.Apply.{AllApply}
use Rattle.pod_rows.specs.Pod.{Pod}
use Rattle.pod_rows.specs.WellFormed.{IsWellFormedSnapshot, pod_of}

-- an entry as a journal of this format has it
abbrev pub entry_text : ℕ → Entry → List ℕ
entry_text format entry = if format == 1 then entry_1_bytes entry else entry_bytes entry

-- An entry that a journal of this format can have. Format 1 has no bases.
pub record IsEntryIn (format : ℕ) (entry : Entry) : Type 0 where
  pub storable : IsStorable entry
  pub bases : format ≡ 1 → entry.bases.items ≡ []

-- The records are the text of a well-formed snapshot, and then the texts of entries in the format
-- of their journal, each of which applies after those before it.
pub record Holds (format : ℕ) (bodies : List (List ℕ)) (snapshot : Snapshot) (entries : List Entry)
    : Type 0 where
  pub texts : bodies ≡ snapshot_bytes snapshot ∷ map (entry_text format) entries
  pub stored : IsStorableSnapshot snapshot
  pub well_formed : IsWellFormedSnapshot snapshot
  pub all_stored : AllByRecursion (IsEntryIn format) entries
  pub apply : AllApply (pod_of snapshot) snapshot.seq entries

-- they hold some snapshot and entries
abbrev pub IsReadable : ℕ → List (List ℕ) → Type 0
IsReadable format bodies = (snapshot : Snapshot) × (entries : List Entry)
    × Holds format bodies snapshot entries

-- the moment of the last of these entries, or else this one
abbrev pub last_after : Option Moment → List Entry → Option Moment
last_after last [] = last
last_after last (entry ∷ more) = last_after (Some entry.moment) more

-- the record is the text of a snapshot of this pod, whose next change has that number
pub record IsSnapshotText (pod : Pod) (next : ℕ) (text : List ℕ) : Type 0 where
  pub snapshot : Snapshot
  pub pod_is : pod_of snapshot ≡ pod
  pub number : snapshot.seq ≡ next
  pub holds : Holds 2 (text ∷ []) snapshot []
