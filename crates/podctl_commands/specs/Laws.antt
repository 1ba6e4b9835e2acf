-- That two disks have one end: they hold a store, are damaged at one place, or are both empty.
use Rattle.std.specs.Prelude.{◌≡◌, ℕ, List, Some}
use Rattle.journal_log.specs.declared.fault.Side.{Side}
use Rattle.journal_pair.specs.Stores.{IsStoreEmpty}
use Rattle.pod_command.specs.declared.entry.Entry.{Entry}
use Rattle.pod_command.specs.declared.snapshot.Snapshot.{Snapshot}
use Rattle.pod_records.specs.PodStores.{IsPodDamaged}
use Rattle.podctl_commands.specs.Prints.{IsStoreOf}

-- disks that hold a store aren't damaged
abbrev pub StoreOrDamaged : Type 0
StoreOrDamaged = (first second : List ℕ) (snapshot : Snapshot) (entries : List Entry)
    (side : Side) (at : ℕ) → IsStoreOf (Some first) (Some second) snapshot entries
    → IsPodDamaged side at first second → ⊥

-- and aren't empty
abbrev pub StoreOrEmpty : Type 0
StoreOrEmpty = (first second : List ℕ) (snapshot : Snapshot) (entries : List Entry)
    → IsStoreOf (Some first) (Some second) snapshot entries → IsStoreEmpty first second → ⊥

-- and two empty disks aren't damaged
abbrev pub DamagedOrEmpty : Type 0
DamagedOrEmpty = (first second : List ℕ) (side : Side) (at : ℕ)
    → IsPodDamaged side at first second → IsStoreEmpty first second → ⊥

-- they are damaged at one place at most
abbrev pub DamagedOnce : Type 0
DamagedOnce = (first second : List ℕ) (side side_2 : Side) (at at_2 : ℕ)
    → IsPodDamaged side at first second → IsPodDamaged side_2 at_2 first second
    → (side ≡ side_2) × (at ≡ at_2)
