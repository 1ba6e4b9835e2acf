-- What a repair of the gate in doubt leaves of two disks.
use Rattle.std.specs.Prelude.{◌++◌, ℕ, List}
use Rattle.pod_disk.specs.Disk.{LeavesOnly}
use Rattle.journal_log.specs.Frames.{framed_of, opened}
use Rattle.journal_log.specs.Gates.{IsOpening}
use Rattle.journal_log.specs.Heads.{encoded_head}
use Rattle.journal_pair.specs.PairJournal.{IsAppendInDoubt, IsCheckpointInDoubt, IsPassedBeside}
use Rattle.journal_pair.specs.PairMoments.{LeavesPairs}
use Rattle.journal_pair.specs.PairState.{PairState}
use Rattle.journal_pair.specs.Sides.{active_of, other_of}

-- the journal of these records, with any gate before this one
abbrev pub IsOpeningLast : ℕ → ℕ → List (List ℕ) → List ℕ → List ℕ → Type 0
IsOpeningLast format epoch bodies body =
    IsOpening (encoded_head format epoch ++ opened bodies) (framed_of body)

module _ {D : Type 0} (image : D → List ℕ → Type 0) (moment : D → ℕ) (left_since : D → ℕ → List ℕ
    → Type 0) (first second first_new second_new : D) (pair : PairState) where
  -- Where the last gate of the active journal is in doubt: what its disk leaves at each moment has P
  -- of the records and of the one after that gate.
  abbrev pub AppendLeaves : (List (List ℕ) → List ℕ → List ℕ → Type 0) → Type 0
  AppendLeaves P = (bodies : List (List ℕ)) (body : List ℕ)
      → IsAppendInDoubt image first second pair bodies body
      → LeavesOnly moment left_since (active_of pair.active first second)
      (active_of pair.active first_new second_new) (P bodies body)

  -- and so have the pairs of crash images, where the other disk is passed over
  abbrev pub AppendLeavesPairs : (List (List ℕ) → List ℕ → List ℕ → List ℕ → Type 0) → Type 0
  AppendLeavesPairs P = (bodies : List (List ℕ)) (body : List ℕ)
      → IsAppendInDoubt image first second pair bodies body
      → IsPassedBeside image first second pair
      → LeavesPairs moment left_since first second first_new second_new (P bodies body)

  -- Where a checkpoint is in doubt: what its disk leaves at each moment has P of the snapshot.
  abbrev pub CheckpointLeaves : (List ℕ → List ℕ → Type 0) → Type 0
  CheckpointLeaves P = (bodies : List (List ℕ)) (snapshot : List ℕ)
      → IsCheckpointInDoubt image first second pair bodies snapshot
      → LeavesOnly moment left_since (other_of pair.active first second)
      (other_of pair.active first_new second_new) (P snapshot)

  -- and the pairs of crash images have P of the records and of the snapshot
  abbrev pub CheckpointLeavesPairs : (List (List ℕ) → List ℕ → List ℕ → List ℕ → Type 0) → Type 0
  CheckpointLeavesPairs P = (bodies : List (List ℕ)) (snapshot : List ℕ)
      → IsCheckpointInDoubt image first second pair bodies snapshot
      → LeavesPairs moment left_since first second first_new second_new (P bodies snapshot)
