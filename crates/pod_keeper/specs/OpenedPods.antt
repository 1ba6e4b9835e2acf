-- What the opening of a keeper returns.
use Rattle.std.specs.Prelude.{◌≤◌, ℕ, List, Option}
use Rattle.journal_pair.specs.Causes.{IfBothVisible}
use Rattle.journal_pair.specs.PairMoments.{EachPair, LeavesPairs, IsWhileStoreOpened}
use Rattle.journal_pair.specs.PairMoments.{ThroughOpenings}
use Rattle.journal_pair.specs.Stores.{StoreStands}
use Rattle.pod_command.specs.declared.entry.Entry.{Entry}
use Rattle.pod_command.specs.declared.snapshot.Snapshot.{Snapshot}
use Rattle.pod_core.specs.History.{History}
use Rattle.pod_keeper.specs.CrashedPods.{StandsForOneOf, ThoughMended}
use Rattle.pod_keeper.specs.Kept.{certain, IsKept}
use Rattle.pod_keeper.specs.KeeperState.{KeeperState}
use Rattle.pod_keeper.specs.Stored.{history_of}
use Rattle.pod_records.specs.Records.{Holds}

-- The records of the active journal, which the disks represent, hold a snapshot and entries. The
-- keeper represents that snapshot with those entries.
pub record IsOpened {D : Type 0} (image : D → List ℕ → Type 0) (first second : Option (List ℕ))
    (bodies : List (List ℕ)) (keeper : KeeperState D) : Type 0 where
  pub snapshot : Snapshot
  pub entries : List Entry
  pub holds : Holds keeper.pair.journal.format bodies snapshot entries
  pub stands : IfBothVisible first second (StoreStands keeper.pair.active
      keeper.pair.journal.format keeper.pair.journal.epoch bodies)
  pub kept : IsKept image keeper (history_of snapshot entries) snapshot.seq certain

-- Where each pair of crash images represented one of these before, also while its torn last gate is
-- written, each represents one of them at every moment since.
abbrev pub KeepsStanding : {D : Type 0} → (D → List ℕ → Type 0) → (D → ℕ)
    → (D → ℕ → List ℕ → Type 0) → D → D → D → D → Type 0
KeepsStanding image moment left_since first second first_new second_new =
    (history : History) (entries : List Entry)
    → EachPair (image first) (image second) (ThoughMended (StandsForOneOf history entries))
    → LeavesPairs moment left_since first second first_new second_new
    (StandsForOneOf history entries)

-- Where each pair of crash images represented one of these before, however often they are opened,
-- each does at every moment since: the next opening has what this one had.
abbrev pub KeepsThroughOpenings : {D : Type 0} → (D → List ℕ → Type 0) → (D → ℕ)
    → (D → ℕ → List ℕ → Type 0) → D → D → D → D → Type 0
KeepsThroughOpenings image moment left_since first second first_new second_new =
    (history : History) (entries : List Entry)
    → EachPair (image first) (image second) (ThroughOpenings (StandsForOneOf history entries))
    → LeavesPairs moment left_since first second first_new second_new
    (ThroughOpenings (StandsForOneOf history entries))

-- What an opening did to the disks. At each moment every pair of crash images was one from before,
-- but for a torn last gate that is written; and no moment and no count of faults fell.
pub record OpensDisks {D : Type 0} (image : D → List ℕ → Type 0) (moment : D → ℕ)
    (left_since : D → ℕ → List ℕ → Type 0) (faults : D → ℕ) (first second first_new second_new : D)
    : Type 0 where
  pub pairs : LeavesPairs moment left_since first second first_new second_new
      (IsWhileStoreOpened image first second)
  pub stands : KeepsStanding image moment left_since first second first_new second_new
  pub again : KeepsThroughOpenings image moment left_since first second first_new second_new
  pub later_first : moment first ≤ moment first_new
  pub later_second : moment second ≤ moment second_new
  pub no_fewer_first : faults first ≤ faults first_new
  pub no_fewer_second : faults second ≤ faults second_new
