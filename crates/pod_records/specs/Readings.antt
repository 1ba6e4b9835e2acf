-- What is known while the records of a journal are read.
use Rattle.std.specs.Prelude.{◌≡◌, ℕ, ◌+◌, List, length, Option, None}
use Rattle.pod_base.specs.declared.moment.Moment.{Moment}
use Rattle.stored_forms.specs.Storable.{IsStorableSnapshot}
use Rattle.stored_forms.specs.StoredForms.{snapshot_bytes}
use Rattle.pod_command.specs.declared.entry.Entry.{Entry}
use Rattle.pod_command.specs.declared.snapshot.Snapshot.{Snapshot}
use Rattle.pod_pages.specs.State.{VersionState, first_state, states_after}
use Rattle.pod_records.specs.PodStores.{BreaksAfter, gate_after}
use Rattle.pod_records.specs.Records.{entry_text, last_after, Holds, IsEntryIn}
use Rattle.pod_records.specs.declared.record_reading.RecordFault.{RecordFault}
use Rattle.pod_records.specs.declared.record_reading.RecordFault.TheVariants.{Damaged, NoMemory}
use Rattle.pod_rows.specs.Apply.{Applies, replayed}
use Rattle.pod_rows.specs.Pod.{Pod}
use Rattle.pod_rows.specs.WellFormed.{IsWellFormedSnapshot, pod_of}

-- The records were read: they hold a snapshot and entries, and with these this is the version and
-- the last moment. Whatever they hold has its pod and its number.
pub record AreRecordsRead (format : ℕ) (bodies : List (List ℕ)) (version : VersionState)
    (last : Option Moment) : Type 0 where
  pub snapshot : Snapshot
  pub entries : List Entry
  pub holds : Holds format bodies snapshot entries
  pub version_is : version ≡ states_after (first_state snapshot) entries
  pub last_is : last ≡ last_after None entries
  pub only : (other : Snapshot) (others : List Entry) → Holds format bodies other others
      → (replayed (pod_of other) others ≡ version.pod)
      × (other.seq + length others ≡ version.next)

-- a record that is the text of a well-formed snapshot
pub record IsSnapshotOf (text : List ℕ) (snapshot : Snapshot) : Type 0 where
  pub form : text ≡ snapshot_bytes snapshot
  pub stored : IsStorableSnapshot snapshot
  pub well_formed : IsWellFormedSnapshot snapshot

-- The record was read as a snapshot of this version, whose pod and number are the only ones that it
-- has.
pub record IsSnapshotRead (text : List ℕ) (version : VersionState) : Type 0 where
  pub snapshot : Snapshot
  pub is : IsSnapshotOf text snapshot
  pub version_is : version ≡ first_state snapshot
  pub only : (other : Snapshot) → IsSnapshotOf text other
      → (pod_of other ≡ version.pod) × (other.seq ≡ version.next)

-- a record that is the text of an entry of this format
pub record IsEntryOf (format : ℕ) (text : List ℕ) (entry : Entry) : Type 0 where
  pub form : text ≡ entry_text format entry
  pub stored : IsEntryIn format entry

-- The record was read as this entry. Every entry whose text it is has the same number and edits.
pub record IsEntryRead (format : ℕ) (text : List ℕ) (entry : Entry) : Type 0 where
  pub is : IsEntryOf format text entry
  pub only : (other : Entry) → IsEntryOf format text other
      → (other.seq ≡ entry.seq) × (other.edits.items ≡ entry.edits.items)

-- No entry is the record's that applies.
abbrev pub HasNoEntry : ℕ → List ℕ → Pod → ℕ → Type 0
HasNoEntry format text pod next =
    (entry : Entry) → IsEntryOf format text entry → Applies pod next entry → ⊥

-- Of these records the one at this gate is the first that breaks what they are to hold; out of
-- memory has no stated cause.
abbrev pub HasRecordCause : ℕ → List (List ℕ) → RecordFault → Type 0
HasRecordCause format bodies (Damaged at) = (good : List (List ℕ)) × BreaksAfter format bodies good
    × (at ≡ gate_after good)
HasRecordCause format bodies NoMemory = Unit {0}
