-- What an answer of `open` comes from.
use Rattle.std.specs.Prelude.{◌≡◌, ℕ, List, [], Option}
use Rattle.pod_base.specs.Counts.{CountIncreased}
use Rattle.pod_io.specs.Visible.{IfVisible}
use Rattle.journal_log.specs.Images.{IsDamaged}
use Rattle.journal_log.specs.declared.fault.Side.{Side}
use Rattle.journal_log.specs.declared.fault.OpenFault.{OpenFault}
use Rattle.journal_log.specs.declared.fault.OpenFault.TheVariants.{Empty, Damaged, DiskFault}
use Rattle.journal_log.specs.declared.fault.OpenFault.TheVariants.{NoMemory}

-- a fault of reading comes from the disk, whose count increased, or it is out of memory
abbrev pub IsOfReading : ℕ → ℕ → OpenFault → Type 0
IsOfReading old new Empty = ⊥
IsOfReading old new (Damaged side at) = ⊥
IsOfReading old new DiskFault = CountIncreased old new
IsOfReading old new NoMemory = Unit {0}

-- An empty disk has no bytes; damage is that of what the disk reads, at its place and on the side
-- handed in; a fault of the disk was counted; nothing is said of being out of memory.
abbrev pub HasCause : Option (List ℕ) → Side → ℕ → ℕ → OpenFault → Type 0
HasCause content side old new Empty = IfVisible content (λ disk. disk ≡ [])
HasCause content side old new (Damaged on at) = (on ≡ side) × IfVisible content (IsDamaged at)
HasCause content side old new DiskFault = CountIncreased old new
HasCause content side old new NoMemory = Unit {0}
