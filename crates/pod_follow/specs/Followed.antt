-- What a follower makes of a snapshot and of an entry.
use Rattle.std.specs.Prelude.{◌≡◌, ◌<◌, ◌+◌, ℕ, List}
use Rattle.pod_base.specs.declared.moment.Moment.{Moment}
use Rattle.pod_base.specs.declared.moment.Stamp.{Stamp}
use Rattle.pod_command.specs.declared.entry.Entry.{Entry}
use Rattle.pod_command.specs.declared.snapshot.Snapshot.{Snapshot}
use Rattle.pod_records.specs.Readings.{IsEntryOf, IsSnapshotOf}
use Rattle.pod_rows.specs.Apply.{Applies, applied}
use Rattle.pod_rows.specs.State.{NumberedPod}
use Rattle.pod_rows.specs.WellFormed.{pod_of}
use Rattle.pod_follow.specs.declared.follower.Took.{Took}
use Rattle.pod_follow.specs.declared.follower.Took.TheVariants as took

-- The bytes are the text of a well-formed snapshot of this pod, whose next entry has that number,
-- and of no other.
pub record IsStart (text : List ℕ) (state : NumberedPod) : Type 0 where
  pub snapshot : Snapshot
  pub is : IsSnapshotOf text snapshot
  pub pod_is : state.pod ≡ pod_of snapshot
  pub next_is : state.next ≡ snapshot.seq
  pub only : (other : Snapshot) → IsSnapshotOf text other
      → (pod_of other ≡ state.pod) × (other.seq ≡ state.next)

-- The bytes are the text of this entry, in one of the formats.
abbrev pub IsEntryText : List ℕ → Entry → Type 0
IsEntryText text entry = (format : ℕ) × IsEntryOf format text entry

-- And whatever entry it is the text of has this one's number and edits.
pub record IsTheEntry (text : List ℕ) (entry : Entry) : Type 0 where
  pub is : IsEntryText text entry
  pub only : (other : Entry) → IsEntryText text other
      → (other.seq ≡ entry.seq) × (other.edits.items ≡ entry.edits.items)

-- the state after an entry that applies
abbrev pub state_after : NumberedPod → Entry → NumberedPod
state_after old entry = record { pod = applied old.pod entry; next = old.next + 1 }

-- What a follower makes of an entry, which is applied where it is the next one and applies to the
-- pod.
abbrev pub TakesEntry : NumberedPod → Entry → NumberedPod → Took → Type 0
TakesEntry old entry new took.Applied = Applies old.pod old.next entry × (new ≡ state_after old entry)
TakesEntry old entry new (took.Old seq next) = (seq ≡ entry.seq) × (next ≡ old.next)
    × (seq < next) × (new ≡ old)
TakesEntry old entry new (took.Ahead seq next) = (seq ≡ entry.seq) × (next ≡ old.next)
    × (next < seq) × (new ≡ old)
TakesEntry old entry new (took.Unfit seq) = (seq ≡ entry.seq) × (seq ≡ old.next)
    × (Applies old.pod old.next entry → ⊥) × (new ≡ old)
TakesEntry old entry new took.NotEntry = ⊥

-- And of bytes, which may be an entry.
abbrev pub Takes : NumberedPod → List ℕ → NumberedPod → Took → Type 0
Takes old text new took.NotEntry = ((entry : Entry) → IsEntryText text entry → ⊥) × (new ≡ old)
Takes old text new answer = (entry : Entry) × IsTheEntry text entry × TakesEntry old entry new answer

-- the stamp of a read, which no entry records
abbrev pub read_stamp : Moment → Stamp
read_stamp moment = record { conn = 0; number = 0; moment = moment }
