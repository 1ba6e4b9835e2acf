-- What a write leaves on two disks: of a record, after a repair and a checkpoint.
use Rattle.std.specs.Prelude.{◌≡◌, ◌⊎◌, ◌+◌, ℕ, List, [], ◌∷◌, ◌++◌, Contains, Option, Some, None}
use Rattle.std.specs.Prelude.{IsSome}
use Rattle.std.specs.Prelude.{Result, OnOk, OnErr}
use Rattle.pod_disk.specs.Disk.{LeavesOnly}
use Rattle.journal_log.specs.Classes.{HasClass}
use Rattle.journal_log.specs.Images.{Stands}
use Rattle.journal_log.specs.declared.disk_class.DiskClass.TheVariants.{Open}
use Rattle.journal_log.specs.declared.fault.Side.{Side}
use Rattle.journal_pair.specs.PairJournal.{IsPairClean}
use Rattle.journal_pair.specs.PairMoments.{ThroughMending, ThroughOpenings}
use Rattle.journal_pair.specs.PairState.{PairState}
use Rattle.journal_pair.specs.Sides.{active_of, other_of, opposite_of}
use Rattle.journal_pair.specs.Stores.{IsPassedOver, StoreStands}
use Rattle.journal_pair.specs.Doubts.{RecordDoubt, certain, entered, checkpointed, tails_in, news_in}
use Rattle.journal_pair.specs.Doubts.{HasRecords, IsSure, IsLong}
use Rattle.journal_pair.specs.Together.{LeavesTogether}

-- the records of the active journal before a record is added: those from before, or a snapshot
-- alone
abbrev pub records_before : List (List ℕ) → Option (List ℕ) → List (List ℕ)
records_before bodies None = bodies
records_before bodies (Some snapshot) = snapshot ∷ []

-- the new journal, where a checkpoint is made: its snapshot alone
abbrev pub alone : Option (List ℕ) → List (List (List ℕ))
alone None = []
alone (Some snapshot) = (snapshot ∷ []) ∷ []

-- and then with the record
abbrev pub with_record : Option (List ℕ) → List ℕ → List (List (List ℕ))
with_record None body = []
with_record (Some snapshot) body = (snapshot ∷ body ∷ []) ∷ []

-- the record, where it follows those from before
abbrev pub tail_of : Option (List ℕ) → List ℕ → List (List ℕ)
tail_of None body = body ∷ []
tail_of (Some snapshot) body = []

-- where a checkpoint is made, the active journal is on the other disk, in format 2 and of the next
-- epoch
abbrev pub Moves : Option (List ℕ) → PairState → PairState → Type 0
Moves None old new = (new.active ≡ old.active) × (new.journal.format ≡ old.journal.format)
    × (new.journal.epoch ≡ old.journal.epoch)
Moves (Some snapshot) old new = (new.active ≡ opposite_of old.active) × (new.journal.format ≡ 2)
    × (new.journal.epoch ≡ old.journal.epoch + 1)

-- an image of the disk that was active: the records from before, or with one of these after them
abbrev pub IsActiveImage : ℕ → ℕ → List (List ℕ) → List (List ℕ) → List ℕ → Type 0
IsActiveImage format epoch bodies tails image = Stands format epoch bodies image
    ⊎ ((tail : List ℕ) × Contains tails tail × Stands format epoch (bodies ++ tail ∷ []) image)

-- a journal of the next epoch with one of these lists of records
abbrev pub IsNewImage : ℕ → List (List (List ℕ)) → List ℕ → Type 0
IsNewImage epoch news image = (bodies : List (List ℕ)) × Contains news bodies
    × HasClass (Open (epoch + 1)) image × Stands 2 (epoch + 1) bodies image

-- an image of the other disk: it is passed over, or a journal of the next epoch
abbrev pub IsOtherImage : Side → ℕ → List (List (List ℕ)) → List ℕ → Type 0
IsOtherImage side epoch news image = IsPassedOver side epoch image ⊎ IsNewImage epoch news image

-- The two disks stand for the records from before, or with one of these after them, or by the other
-- disk for one of these lists of records at the next epoch.
abbrev pub StandsForWritten : Side → ℕ → ℕ → List (List ℕ) → List (List ℕ) → List (List (List ℕ))
    → List ℕ → List ℕ → Type 0
StandsForWritten side format epoch bodies tails news first second =
    StoreStands side format epoch bodies first second
    ⊎ (((tail : List ℕ) × Contains tails tail
    × StoreStands side format epoch (bodies ++ tail ∷ []) first second)
    ⊎ ((new : List (List ℕ)) × Contains news new
    × StoreStands (opposite_of side) 2 (epoch + 1) new first second))

-- What a failed repair leaves in doubt: what was. A failed checkpoint: nothing, or it.
abbrev pub IsLeftBefore : RecordDoubt → Option (List ℕ) → RecordDoubt → Type 0
IsLeftBefore doubt None left = left ≡ doubt
IsLeftBefore doubt (Some snapshot) left =
    (left ≡ doubt) ⊎ ((left ≡ certain) ⊎ (left ≡ checkpointed snapshot))

module _ {D : Type 0} (image : D → List ℕ → Type 0) (moment : D → ℕ) (left_since : D → ℕ → List ℕ
    → Type 0) (first second first_new second_new : D) (old new : PairState) where
  -- what the two disks leave at each moment, by what they are at first, and what that stays while
  -- they are opened
  pub record Runs (bodies tails : List (List ℕ)) (news : List (List (List ℕ))) : Type 0 where
    pub active : LeavesOnly moment left_since (active_of old.active first second)
        (active_of old.active first_new second_new)
        (ThroughMending (IsActiveImage old.journal.format old.journal.epoch bodies tails))
    pub other : LeavesOnly moment left_since (other_of old.active first second)
        (other_of old.active first_new second_new)
        (ThroughMending (IsOtherImage old.active old.journal.epoch news))

  -- A journal that was made ready for a record: the gate in doubt was closed, and a checkpoint was
  -- made, where there is a snapshot.
  pub record Readies {T E : Type 0} (result : Result T E) (snapshot : Option (List ℕ)) : Type 0 where
    pub done : OnOk result ((bodies : List (List ℕ)) (doubt : RecordDoubt)
        → HasRecords image first second old bodies doubt
        → IsPairClean image first_new second_new new (records_before bodies snapshot))
    pub moved : OnOk result (Moves snapshot old new)
    pub renewed : OnOk result (IsSome snapshot
        → IsSure image first_new second_new new × IsLong image first_new second_new new)
    pub fault : OnErr result ((bodies : List (List ℕ)) (doubt : RecordDoubt)
        → HasRecords image first second old bodies doubt
        → (left : RecordDoubt) × IsLeftBefore doubt snapshot left
        × HasRecords image first_new second_new new bodies left)
    pub stayed : OnErr result (Moves None old new)
    pub runs : (bodies : List (List ℕ)) (doubt : RecordDoubt)
        → HasRecords image first second old bodies doubt → IsSure image first second old
        → (IsSome snapshot → IsLong image first second old)
        → Runs bodies (tails_in doubt) (news_in doubt ++ alone snapshot)
    pub sure : IsSure image first second old → (IsSome snapshot → IsLong image first second old)
        → IsSure image first_new second_new new
    pub long : IsSure image first second old → IsLong image first second old
        → IsLong image first_new second_new new

  -- What a write that failed left: the records from before and what a failed step left in doubt, or
  -- those that the record was to follow, and it in doubt or nothing.
  abbrev pub IsLeftByWrite : List (List ℕ) → RecordDoubt → Option (List ℕ) → List ℕ → Type 0
  IsLeftByWrite bodies doubt snapshot body = ((left : RecordDoubt) × IsLeftBefore doubt snapshot left
      × HasRecords image first_new second_new new bodies left × Moves None old new)
      ⊎ ((left : RecordDoubt) × ((left ≡ certain) ⊎ (left ≡ entered body))
      × HasRecords image first_new second_new new (records_before bodies snapshot) left
      × Moves snapshot old new)

  -- A record that was added, after the journal was made ready.
  pub record Writes {T E : Type 0} (result : Result T E) (snapshot : Option (List ℕ))
      (body : List ℕ) : Type 0 where
    pub done : OnOk result ((bodies : List (List ℕ)) (doubt : RecordDoubt)
        → HasRecords image first second old bodies doubt
        → IsPairClean image first_new second_new new (records_before bodies snapshot ++ body ∷ []))
    pub moved : OnOk result (Moves snapshot old new)
    pub renewed : OnOk result (IsSome snapshot
        → IsSure image first_new second_new new × IsLong image first_new second_new new)
    pub fault : OnErr result ((bodies : List (List ℕ)) (doubt : RecordDoubt)
        → HasRecords image first second old bodies doubt
        → IsLeftByWrite bodies doubt snapshot body)
    pub pairs : (bodies : List (List ℕ)) (doubt : RecordDoubt)
        → HasRecords image first second old bodies doubt → IsSure image first second old
        → (IsSome snapshot → IsLong image first second old)
        → LeavesTogether moment left_since first second first_new second_new
        (ThroughOpenings (StandsForWritten old.active old.journal.format old.journal.epoch bodies
        (tails_in doubt ++ tail_of snapshot body)
        (news_in doubt ++ (alone snapshot ++ with_record snapshot body))))
    pub sure : IsSure image first second old → (IsSome snapshot → IsLong image first second old)
        → IsSure image first_new second_new new
    pub long : IsSure image first second old → IsLong image first second old
        → IsLong image first_new second_new new
