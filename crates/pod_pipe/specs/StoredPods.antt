-- A connection's pod over the two disks of a store.
use Rattle.std.specs.Prelude.{ℕ, List, Option}
use Rattle.pod_command.specs.declared.entry.Entry.{Entry}
use Rattle.pod_core.specs.History.{History}
use Rattle.pod_core.specs.Session.{Item}
use Rattle.pod_keeper.specs.KeeperRuns.{StandsWith, TakesItems, items_on}
use Rattle.pod_keeper.specs.KeeperState.{KeeperState}
use Rattle.pod_pipe.specs.Holders.{CountsDiskFaults, DiskFaults, Faults}
use Rattle.pod_pipe.specs.Served as served
use Rattle.history_laws.specs.Isolated.{grown}

abbrev pub disk_faults : {D : Type 0} → (D → ℕ) → KeeperState D → DiskFaults
disk_faults faults keeper = record { first = faults keeper.first; second = faults keeper.second }

-- what is counted over a keeper: the faults of its disks, and the requests that ran out of memory
abbrev pub stored_faults : {D : Type 0} → (D → ℕ) → KeeperState D → ℕ → Faults
stored_faults faults keeper out_of_memory =
    record { disks = disk_faults faults keeper; out_of_memory = out_of_memory }

-- The returned keeper, which represented the history with that in doubt. It has advanced to the
-- history with the items' entries, item by item: at each moment each pair of crash images represents
-- the history with the entries of the items before, or that with the entry in doubt or the one under
-- way, and what is in doubt is the entry of an item that met a disk fault. Each of these was
-- counted.
pub record LeavesKeeper {D : Type 0} (image : D → List ℕ → Type 0) (moment : D → ℕ)
    (left_since : D → ℕ → List ℕ → Type 0) (may_give : ℕ → Type 0) (faults : D → ℕ)
    (old new : KeeperState D) (history : History) (doubt : Option Entry) (items : List Item)
    : Type 0 where
  pub after : Option Entry
  pub represents : StandsWith image new (grown history items) after
  pub taken : TakesItems image moment left_since may_give old history doubt (items_on 1 items)
      new after
  pub counted : CountsDiskFaults (served.disk_faults items) (disk_faults faults old)
      (disk_faults faults new)
