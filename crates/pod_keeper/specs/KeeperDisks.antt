-- What holds of the two disks of a keeper, and what its calls keep of it.
use Rattle.std.specs.Prelude.{◌⊎◌, ℕ, List}
use Rattle.journal_pair.specs.Doubts.{IsSure, IsLong}
use Rattle.pod_base.specs.Counts.{CountIncreased}
use Rattle.pod_core.specs.History.{History}
use Rattle.pod_keeper.specs.Kept.{Doubt, ForEachHistory}
use Rattle.pod_keeper.specs.KeeperState.{KeeperState, IsCheckpointDue}

module _ {D : Type 0} (image : D → List ℕ → Type 0) where
  -- Unless a checkpoint is in doubt, each crash image of the disk beside the active journal is
  -- passed over.
  abbrev pub HasSureDisks : KeeperState D → Type 0
  HasSureDisks keeper = IsSure image keeper.first keeper.second keeper.pair

  -- and that disk has at least 17 bytes
  abbrev pub HasLongDisks : KeeperState D → Type 0
  HasLongDisks keeper = IsLong image keeper.first keeper.second keeper.pair

  -- which the write of an entry needs where it makes a checkpoint
  abbrev pub HasLongWhereDue : KeeperState D → Type 0
  HasLongWhereDue keeper = IsCheckpointDue keeper.pair → HasLongDisks keeper

  -- the write of an entry keeps the first
  abbrev pub StaysSure : KeeperState D → KeeperState D → Type 0
  StaysSure old new = HasSureDisks old → HasLongWhereDue old → HasSureDisks new

  -- and every call the second
  abbrev pub StaysLong : KeeperState D → KeeperState D → Type 0
  StaysLong old new = HasSureDisks old → HasLongDisks old → HasLongDisks new

  -- for each history that a keeper with such disks represents
  abbrev pub ForEachWhereSure : KeeperState D → (History → Doubt → Type 0) → Type 0
  ForEachWhereSure keeper P = ForEachHistory image keeper
      (λ history place doubt. HasSureDisks keeper → HasLongWhereDue keeper → P history doubt)

-- a fault was counted on one of the disks
abbrev pub IncreasesFaults : {D : Type 0} → (D → ℕ) → KeeperState D → KeeperState D → Type 0
IncreasesFaults faults old new = CountIncreased (faults old.first) (faults new.first)
    ⊎ CountIncreased (faults old.second) (faults new.second)
