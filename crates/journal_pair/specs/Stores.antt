-- What the two disks of a store stand for, by a crash image of each.
use Rattle.std.specs.Prelude.{◌≡◌, ◌⊎◌, ◌<◌, ◌≤◌, ◌+◌, ℕ, List, [], ◌∷◌, ◌++◌}
use Rattle.journal_log.specs.Classes.{HasClass}
use Rattle.journal_log.specs.Images.{Stands, IsDamaged}
use Rattle.journal_log.specs.declared.disk_class.DiskClass.TheVariants.{Empty, Short, Torn, Closed}
use Rattle.journal_log.specs.declared.disk_class.DiskClass.TheVariants.{Wrong, Open}
use Rattle.journal_log.specs.declared.fault.Side.{Side}
use Rattle.journal_log.specs.declared.fault.Side.TheVariants.{First, Second}
use Rattle.journal_pair.specs.Sides.{active_of, other_of, opposite_of}

-- The journal on this side, of this epoch, is taken rather than one of that epoch beside it: the
-- greater epoch is taken, and of equals the first disk.
abbrev pub IsTakenBefore : Side → ℕ → ℕ → Type 0
IsTakenBefore First epoch beside = beside ≤ epoch
IsTakenBefore Second epoch beside = beside < epoch

-- Beside an open disk on this side, of this epoch, this image is passed over: it isn't wrong, and
-- where it is open the other is taken before it.
pub record IsPassedOver (side : Side) (epoch : ℕ) (image : List ℕ) : Type 0 where
  pub not_wrong : HasClass Wrong image → ⊥
  pub older : (beside : ℕ) → HasClass (Open beside) image → IsTakenBefore side epoch beside

-- No disk is wrong, and the one on this side is open with the greatest epoch, the first of equals.
pub record IsTaken (side : Side) (epoch : ℕ) (first second : List ℕ) : Type 0 where
  pub is_open : HasClass (Open epoch) (active_of side first second)
  pub beside : IsPassedOver side epoch (other_of side first second)

-- The store stands for the records of the journal that is taken, which is on this side.
pub record StoreStands (side : Side) (format epoch : ℕ) (bodies : List (List ℕ))
    (first second : List ℕ) : Type 0 where
  pub taken : IsTaken side epoch first second
  pub stands : Stands format epoch bodies (active_of side first second)

-- it stands for these records, with one more or without it
abbrev pub StoreStandsEither : Side → ℕ → ℕ → List (List ℕ) → List ℕ → List ℕ → List ℕ → Type 0
StoreStandsEither side format epoch bodies body first second =
    StoreStands side format epoch bodies first second
    ⊎ StoreStands side format epoch (bodies ++ body ∷ []) first second

-- it stands for these records, or by the other disk for this snapshot alone, at the next epoch
abbrev pub StoreStandsBoth : Side → ℕ → ℕ → List (List ℕ) → List ℕ → List ℕ → List ℕ → Type 0
StoreStandsBoth side format epoch bodies snapshot first second =
    StoreStands side format epoch bodies first second
    ⊎ StoreStands (opposite_of side) 2 (epoch + 1) (snapshot ∷ []) first second

-- both disks are empty
abbrev pub IsStoreEmpty : List ℕ → List ℕ → Type 0
IsStoreEmpty first second = HasClass Empty first × HasClass Empty second

-- The disk on this side is wrong, the first disk before the second: damage at 0.
pub record HasWrongDisk (side : Side) (at : ℕ) (first second : List ℕ) : Type 0 where
  pub wrong : HasClass Wrong (active_of side first second)
  pub before : side ≡ Second → HasClass Wrong first → ⊥
  pub place : at ≡ 0

-- the journal that is taken is on this side, and is damaged there
pub record HasDamagedJournal (side : Side) (at : ℕ) (first second : List ℕ) : Type 0 where
  pub epoch : ℕ
  pub taken : IsTaken side epoch first second
  pub damaged : IsDamaged at (active_of side first second)

-- a disk that isn't empty and has no journal: its damage is at the first gate where it is closed,
-- and at 0 where its head isn't right or isn't whole
abbrev pub IsUnopened : ℕ → List ℕ → Type 0
IsUnopened at image = (HasClass Closed image × (at ≡ 16))
    ⊎ ((HasClass Short image ⊎ HasClass Torn image) × (at ≡ 0))

-- beside the first disk the second has no journal and isn't wrong; beside the second the first is
-- empty
abbrev pub IsBesideUnopened : Side → List ℕ → Type 0
IsBesideUnopened First second = (HasClass Wrong second → ⊥)
    × ((epoch : ℕ) → HasClass (Open epoch) second → ⊥)
IsBesideUnopened Second first = HasClass Empty first

-- No disk is open or wrong, and the one on this side is the first that isn't empty.
pub record HasNoJournal (side : Side) (at : ℕ) (first second : List ℕ) : Type 0 where
  pub unopened : IsUnopened at (active_of side first second)
  pub beside : IsBesideUnopened side (other_of side first second)

-- the store is damaged on this side, at this place
abbrev pub IsStoreDamaged : Side → ℕ → List ℕ → List ℕ → Type 0
IsStoreDamaged side at first second = HasWrongDisk side at first second
    ⊎ (HasDamagedJournal side at first second ⊎ HasNoJournal side at first second)
