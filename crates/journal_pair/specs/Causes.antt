-- What an answer of a pair comes from.
use Rattle.std.specs.Prelude.{◌≤◌, ◌⊎◌, ℕ, List, Option, Result, IsErr}
use Rattle.pod_base.specs.Counts.{CountIncreased}
use Rattle.pod_io.specs.Visible.{IfVisible}
use Rattle.journal_log.specs.declared.fault.OpenFault.{OpenFault}
use Rattle.journal_log.specs.declared.fault.OpenFault.TheVariants.{Empty, Damaged, DiskFault}
use Rattle.journal_log.specs.declared.fault.OpenFault.TheVariants.{NoMemory}
use Rattle.journal_pair.specs.Stores.{IsStoreEmpty, IsStoreDamaged}

-- the counts of faults of two disks never fall, and one of them increased where the call failed
pub record PairCounts {T E : Type 0} (result : Result T E)
    (first first_new second second_new : ℕ) : Type 0 where
  pub no_fewer_first : first ≤ first_new
  pub no_fewer_second : second ≤ second_new
  pub failed : IsErr result → CountIncreased first first_new ⊎ CountIncreased second second_new

-- what holds of two contents, where both are visible
abbrev pub IfBothVisible : Option (List ℕ) → Option (List ℕ) → (List ℕ → List ℕ → Type 0) → Type 0
IfBothVisible first second P = IfVisible first (λ c. IfVisible second (P c))

-- Two empty disks, or the damage of what they read, on its side and at its place; a fault of a disk
-- was counted; nothing is said of being out of memory.
abbrev pub HasStoreCause : Option (List ℕ) → Option (List ℕ) → ℕ → ℕ → ℕ → ℕ → OpenFault → Type 0
HasStoreCause first second a a_new b b_new Empty = IfBothVisible first second IsStoreEmpty
HasStoreCause first second a a_new b b_new (Damaged side at) =
    IfBothVisible first second (IsStoreDamaged side at)
HasStoreCause first second a a_new b b_new DiskFault =
    CountIncreased a a_new ⊎ CountIncreased b b_new
HasStoreCause first second a a_new b b_new NoMemory = Unit {0}
