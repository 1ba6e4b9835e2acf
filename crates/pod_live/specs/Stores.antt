-- What a keeper under a lock represents, and which disk faults were counted.
use Rattle.std.specs.Prelude.{◌<◌, ◌≤◌, ◌-◌, ◌^◌, ℕ, ◌+◌, List}
use Rattle.journal_pair.specs.Doubts.{IsSure, IsLong}
use Rattle.pod_core.specs.History.{History}
use Rattle.pod_keeper.specs.Kept.{Doubt, IsKept}
use Rattle.pod_keeper.specs.KeeperState.{KeeperState}

module _ {D : Type 0} (image : D → List ℕ → Type 0) where
  -- The keeper represents the history: its active journal holds it from some place on.
  abbrev pub KeptSome : KeeperState D → History → Type 0
  KeptSome keeper history = (place : ℕ) × (doubt : Doubt) × IsKept image keeper history place doubt

  -- Each crash image of the disk beside the active journal is passed over, and has at least 17
  -- bytes, unless a checkpoint is in doubt: so every crash image represents what the keeper does.
  pub record IsSafe (keeper : KeeperState D) : Type 0 where
    pub sure : IsSure image keeper.first keeper.second keeper.pair
    pub long : IsLong image keeper.first keeper.second keeper.pair

-- So many faults were booked, each against one that the disks counted since: `counted` is the sum of
-- their counts before. It says nothing where a count is at its last value.
abbrev pub Covers : ℕ → ℕ → ℕ → ℕ → Type 0
Covers counted booked first second = first < 2 ^ 64 - 1 → second < 2 ^ 64 - 1
    → counted + booked ≤ first + second
