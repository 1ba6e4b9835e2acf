-- Which of two disks is taken, by their classes.
use Rattle.std.specs.Prelude.{◌≡◌, ◌⊎◌, ℕ, List, Option}
use Rattle.pod_io.specs.Visible.{IfVisible}
use Rattle.pod_disk.specs.Disk.{EachImage}
use Rattle.journal_log.specs.Classes.{HasClass}
use Rattle.journal_log.specs.declared.disk_class.DiskClass.{DiskClass}
use Rattle.journal_log.specs.declared.disk_class.DiskClass.TheVariants as class
use Rattle.journal_log.specs.declared.fault.Side.{Side}
use Rattle.journal_log.specs.declared.fault.Side.TheVariants.{First, Second}
use Rattle.journal_pair.specs.Sides.{active_of, other_of}
use Rattle.journal_pair.specs.Stores.{IsTakenBefore}
use Rattle.journal_pair.specs.declared.disk_choice.Choice.{Choice}
use Rattle.journal_pair.specs.declared.disk_choice.Choice.TheVariants.{Take, Damaged, Empty}

-- a disk of this class is passed over beside an open one on this side, of this epoch
pub record IsPassedClass (side : Side) (epoch : ℕ) (a : DiskClass) : Type 0 where
  pub not_wrong : a ≡ class.Wrong → ⊥
  pub older : (beside : ℕ) → a ≡ class.Open beside → IsTakenBefore side epoch beside

-- closed, or short or torn, and damaged at this place
abbrev pub IsUnopenedClass : ℕ → DiskClass → Type 0
IsUnopenedClass at a = ((a ≡ class.Closed) × (at ≡ 16))
    ⊎ (((a ≡ class.Short) ⊎ (a ≡ class.Torn)) × (at ≡ 0))

-- neither wrong nor open beside the first disk, and empty beside the second
abbrev pub IsBesideClass : Side → DiskClass → Type 0
IsBesideClass First b = (b ≡ class.Wrong → ⊥) × ((epoch : ℕ) → b ≡ class.Open epoch → ⊥)
IsBesideClass Second a = a ≡ class.Empty

-- the disk on this side is wrong, the first before the second
abbrev pub IsWrongClass : Side → ℕ → DiskClass → DiskClass → Type 0
IsWrongClass side at a b = (active_of side a b ≡ class.Wrong)
    × (side ≡ Second → a ≡ class.Wrong → ⊥) × (at ≡ 0)

-- what is chosen of two disks of these classes
abbrev pub IsChosen : Choice → DiskClass → DiskClass → Type 0
IsChosen (Take side epoch) a b = (active_of side a b ≡ class.Open epoch)
    × IsPassedClass side epoch (other_of side a b)
IsChosen (Damaged side at) a b = IsWrongClass side at a b
    ⊎ (IsUnopenedClass at (active_of side a b) × IsBesideClass side (other_of side a b))
IsChosen Empty a b = (a ≡ class.Empty) × (b ≡ class.Empty)

-- it was chosen by the classes of these contents, which all these crash images have too
pub record IsChosenBy (first_content second_content : Option (List ℕ))
    (first second : List ℕ → Type 0) (choice : Choice) : Type 0 where
  pub a : DiskClass
  pub b : DiskClass
  pub chosen : IsChosen choice a b
  pub first_visible : IfVisible first_content (HasClass a)
  pub second_visible : IfVisible second_content (HasClass b)
  pub first_each : EachImage first (HasClass a)
  pub second_each : EachImage second (HasClass b)
