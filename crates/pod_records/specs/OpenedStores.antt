-- What an answer of the opening of a store comes from.
use Rattle.std.specs.Prelude.{◌≡◌, ◌⊎◌, ℕ, List, Option}
use Rattle.journal_log.specs.declared.fault.OpenFault.{OpenFault}
use Rattle.journal_log.specs.declared.fault.OpenFault.TheVariants.{Empty, Damaged, DiskFault}
use Rattle.journal_log.specs.declared.fault.OpenFault.TheVariants.{NoMemory}
use Rattle.journal_log.specs.declared.fault.Side.{Side}
use Rattle.journal_pair.specs.Causes.{IfBothVisible}
use Rattle.journal_pair.specs.Stores.{IsStoreEmpty}
use Rattle.pod_base.specs.Counts.{CountIncreased}
use Rattle.pod_records.specs.PodStores.{BreaksAfter, IsPodDamaged, gate_after}

-- Two empty disks, or the damage of what they read, on its side and at its place; a fault of a disk
-- was counted; out of memory has no stated cause.
abbrev pub HasPodCause : Option (List ℕ) → Option (List ℕ) → ℕ → ℕ → ℕ → ℕ → OpenFault → Type 0
HasPodCause first second a a_new b b_new Empty = IfBothVisible first second IsStoreEmpty
HasPodCause first second a a_new b b_new (Damaged side at) =
    IfBothVisible first second (IsPodDamaged side at)
HasPodCause first second a a_new b b_new DiskFault = CountIncreased a a_new ⊎ CountIncreased b b_new
HasPodCause first second a a_new b b_new NoMemory = Unit {0}

-- damage by what these records of the journal on this side hold
abbrev pub HasContentCause : Side → ℕ → List (List ℕ) → OpenFault → Type 0
HasContentCause side format bodies Empty = ⊥
HasContentCause side format bodies (Damaged on at) = (on ≡ side) × (good : List (List ℕ))
    × BreaksAfter format bodies good × (at ≡ gate_after good)
HasContentCause side format bodies DiskFault = ⊥
HasContentCause side format bodies NoMemory = Unit {0}
