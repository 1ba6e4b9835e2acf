-- What two disks represent, by a crash image of each and by what their records hold.
use Rattle.std.specs.Prelude.{◌≡◌, ◌⊎◌, ℕ, ◌+◌, List, [], ◌∷◌, ◌++◌}
use Rattle.std.specs.List.{sum_by}
use Rattle.journal_log.specs.Frames.{frame_len}
use Rattle.journal_log.specs.declared.fault.Side.{Side}
use Rattle.journal_pair.specs.Stores.{StoreStands, IsStoreDamaged}
use Rattle.pod_command.specs.declared.entry.Entry.{Entry}
use Rattle.pod_command.specs.declared.snapshot.Snapshot.{Snapshot}
use Rattle.pod_records.specs.Records.{Holds, IsReadable}

-- The journal that is taken, which is on this side, holds this snapshot and these entries.
pub record PodStands (side : Side) (format epoch : ℕ) (snapshot : Snapshot) (entries : List Entry)
    (first second : List ℕ) : Type 0 where
  pub bodies : List (List ℕ)
  pub stands : StoreStands side format epoch bodies first second
  pub holds : Holds format bodies snapshot entries

-- the offset of the gate before the record that follows these
abbrev pub gate_after : List (List ℕ) → ℕ
gate_after bodies = 16 + sum_by frame_len bodies

-- Of these records the one after `good` is the first that breaks what records are to hold.
pub record BreaksAfter (format : ℕ) (bodies good : List (List ℕ)) : Type 0 where
  pub bad : List ℕ
  pub rest : List (List ℕ)
  pub are : bodies ≡ good ++ bad ∷ rest
  pub holds : (good ≡ []) ⊎ IsReadable format good
  pub breaks : IsReadable format (good ++ bad ∷ []) → ⊥

-- All frames are whole, and this gate of the journal that is taken is the first whose record breaks
-- what records are to hold.
pub record HasBadContent (side : Side) (at : ℕ) (first second : List ℕ) : Type 0 where
  pub format : ℕ
  pub epoch : ℕ
  pub bodies : List (List ℕ)
  pub stands : StoreStands side format epoch bodies first second
  pub good : List (List ℕ)
  pub breaks : BreaksAfter format bodies good
  pub place : at ≡ gate_after good

-- The store is damaged on this side, at this place: by its frames, or else by what its records
-- hold.
abbrev pub IsPodDamaged : Side → ℕ → List ℕ → List ℕ → Type 0
IsPodDamaged side at first second =
    IsStoreDamaged side at first second ⊎ HasBadContent side at first second
