-- Records that hold a history.
use Rattle.std.specs.Prelude.{◌≡◌, ℕ, ◌-◌, List, drop}
use Rattle.pod_command.specs.declared.entry.Entry.{Entry}
use Rattle.pod_command.specs.declared.snapshot.Snapshot.{Snapshot}
use Rattle.pod_core.specs.History.{History, IsPlace, pod_at}
use Rattle.pod_records.specs.Records.{Holds}
use Rattle.pod_rows.specs.WellFormed.{pod_of}

-- The snapshot is that of the pod at a place of the history, whose next change has that number.
pub record IsSnapshotAt (history : History) (place : ℕ) (snapshot : Snapshot) : Type 0 where
  pub there : IsPlace history place
  pub pod : pod_of snapshot ≡ pod_at history place
  pub number : snapshot.seq ≡ place

-- The records of a journal of this format hold the history from this place on: its pod there, and
-- all entries from there on.
pub record IsStored (history : History) (format place : ℕ) (bodies : List (List ℕ)) : Type 0 where
  pub snapshot : Snapshot
  pub is_at : IsSnapshotAt history place snapshot
  pub holds : Holds format bodies snapshot (drop (place - history.start) history.entries)

-- the history that begins with this snapshot
abbrev pub history_of : Snapshot → List Entry → History
history_of snapshot entries =
    record { first = pod_of snapshot; start = snapshot.seq; entries = entries }
