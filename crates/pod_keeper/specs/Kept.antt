-- What a keeper represents.
use Rattle.std.specs.Prelude.{◌≡◌, ℕ, List, [], ◌∷◌, None}
use Rattle.journal_pair.specs.PairJournal.{IsPairClean, IsAppendInDoubt, IsCheckpointInDoubt}
use Rattle.journal_pair.specs.PairState.{PairState}
use Rattle.pod_command.specs.declared.entry.Entry.{Entry}
use Rattle.pod_core.specs.History.{History, IsHistory, end_of, pod_at}
use Rattle.pod_keeper.specs.KeeperState.{KeeperState}
use Rattle.pod_keeper.specs.Stored.{IsStored}
use Rattle.pod_pages.specs.State.{VersionState, states_after}
use Rattle.pod_records.specs.Records.{entry_text, last_after, IsEntryIn, IsSnapshotText}
use Rattle.pod_rows.specs.Apply.{Applies}

-- What may be on the disks besides the history: nothing, one entry after its end, or a checkpoint
-- there.
pub data Doubt : Type 0 where
  certain : Doubt
  entered : Entry → Doubt
  checkpointed : Doubt

-- the entry in doubt, where there is one
abbrev pub entries_in : Doubt → List Entry
entries_in certain = []
entries_in (entered entry) = entry ∷ []
entries_in checkpointed = []

-- the entry applies at the end of the history, and a journal of this format can have it
pub record IsNextEntry (history : History) (format : ℕ) (entry : Entry) : Type 0 where
  pub applies : Applies (pod_at history (end_of history)) (end_of history) entry
  pub storable : IsEntryIn format entry

-- this record is the snapshot of the pod at the end of the history
abbrev pub IsCheckpointText : History → List ℕ → Type 0
IsCheckpointText history = IsSnapshotText (pod_at history (end_of history)) (end_of history)

module _ {D : Type 0} (image : D → List ℕ → Type 0) (first second : D) (pair : PairState) where
  -- The active journal has these records. With nothing in doubt its last gate is 0; with an entry
  -- in doubt that gate may hold any byte before the entry's whole record and a gate 0; with a
  -- checkpoint in doubt it is the first gate of the other disk that may hold any byte.
  abbrev pub HasOnDisks : History → List (List ℕ) → Doubt → Type 0
  HasOnDisks history bodies certain = IsPairClean image first second pair bodies
  HasOnDisks history bodies (entered entry) = IsNextEntry history pair.journal.format entry
      × IsAppendInDoubt image first second pair bodies (entry_text pair.journal.format entry)
  HasOnDisks history bodies checkpointed = (text : List ℕ) × IsCheckpointText history text
      × IsCheckpointInDoubt image first second pair bodies text

-- The version of a history: its pod after all entries, and the effects of the last 256 of them.
abbrev pub version_of : History → VersionState
version_of history = states_after (record {
  pod = history.first;
  next = history.start;
  effects = [];
  oldest = history.start;
}) history.entries

-- The keeper represents the history. Its version is the one at the end, and its last moment that of
-- the last entry. The active journal holds the history from this place on.
pub record IsKept {D : Type 0} (image : D → List ℕ → Type 0) (keeper : KeeperState D)
    (history : History) (place : ℕ) (doubt : Doubt) : Type 0 where
  pub is_history : IsHistory history
  pub pod : keeper.pod ≡ pod_at history (end_of history)
  pub next : keeper.next ≡ end_of history
  pub effects : keeper.effects ≡ (version_of history).effects
  pub oldest : keeper.oldest ≡ (version_of history).oldest
  pub last : keeper.last ≡ last_after None history.entries
  pub bodies : List (List ℕ)
  pub stored : IsStored history keeper.pair.journal.format place bodies
  pub disks : HasOnDisks image keeper.first keeper.second keeper.pair history bodies doubt

-- for each history that the keeper represents
abbrev pub ForEachHistory : {D : Type 0} → (D → List ℕ → Type 0) → KeeperState D
    → (History → ℕ → Doubt → Type 0) → Type 0
ForEachHistory image keeper P = (history : History) (place : ℕ) (doubt : Doubt)
    → IsKept image keeper history place doubt → P history place doubt

-- it represents some history
abbrev pub StandsForSome : {D : Type 0} → (D → List ℕ → Type 0) → KeeperState D → Type 0
StandsForSome image keeper = (history : History) × (place : ℕ) × (doubt : Doubt)
    × IsKept image keeper history place doubt
