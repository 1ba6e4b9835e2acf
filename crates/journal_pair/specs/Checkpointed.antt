-- What a checkpoint makes of a pair.
use Rattle.std.specs.Prelude.{◌≡◌, ◌+◌, ℕ, List, [], ◌∷◌}
use Rattle.journal_pair.specs.Sides.{opposite_of}
use Rattle.journal_pair.specs.PairState.{PairState}
use Rattle.journal_pair.specs.PairJournal.{IsPairClean, IsPassedBeside}
use Rattle.journal_pair.specs.PairJournal.{IsLongBeside}

module _ {D : Type 0} (image : D → List ℕ → Type 0) (first second : D) (old new : PairState) where
  -- The other disk is the active one, with a journal of format 2 and the next epoch that has this
  -- snapshot alone. The disk that was active is passed over, and has the place of a first gate.
  pub record IsCheckpointed (snapshot : List ℕ) : Type 0 where
    pub clean : IsPairClean image first second new (snapshot ∷ [])
    pub active : new.active ≡ opposite_of old.active
    pub format : new.journal.format ≡ 2
    pub epoch : new.journal.epoch ≡ old.journal.epoch + 1
    pub passed : IsPassedBeside image first second new
    pub long : IsLongBeside image first second new
