-- A pair with these records, and what may be in doubt beside them.
use Rattle.std.specs.Prelude.{◌≡◌, ℕ, List, [], ◌∷◌, false}
use Rattle.journal_pair.specs.PairJournal.{IsPairClean, IsAppendInDoubt, IsCheckpointInDoubt}
use Rattle.journal_pair.specs.PairJournal.{IsPassedBeside, IsLongBeside}
use Rattle.journal_pair.specs.PairState.{PairState}

-- What may be on the disks beside the records: nothing, one record after the last gate, or a
-- checkpoint with this snapshot.
pub data RecordDoubt : Type 0 where
  certain : RecordDoubt
  entered : List ℕ → RecordDoubt
  checkpointed : List ℕ → RecordDoubt

module _ {D : Type 0} (image : D → List ℕ → Type 0) (first second : D) (pair : PairState) where
  -- the active journal has these records, with that in doubt
  abbrev pub HasRecords : List (List ℕ) → RecordDoubt → Type 0
  HasRecords bodies certain = IsPairClean image first second pair bodies
  HasRecords bodies (entered body) = IsAppendInDoubt image first second pair bodies body
  HasRecords bodies (checkpointed body) = IsCheckpointInDoubt image first second pair bodies body

  -- Unless a checkpoint is in doubt, each crash image of the disk beside the active journal is
  -- passed over. A checkpoint on a disk of fewer than 17 bytes that doesn't succeed may end that.
  abbrev pub IsSure : Type 0
  IsSure = pair.checkpoint ≡ false → IsPassedBeside image first second pair

  -- and that disk has at least 17 bytes
  abbrev pub IsLong : Type 0
  IsLong = pair.checkpoint ≡ false → IsLongBeside image first second pair

-- the record in doubt after the last gate, where there is one
abbrev pub tails_in : RecordDoubt → List (List ℕ)
tails_in certain = []
tails_in (entered body) = body ∷ []
tails_in (checkpointed body) = []

-- the records of the new journal in doubt, where there is one
abbrev pub news_in : RecordDoubt → List (List (List ℕ))
news_in certain = []
news_in (entered body) = []
news_in (checkpointed body) = (body ∷ []) ∷ []
