-- Runs of calls that only read, put together.
use Rattle.std.proofs.Common.{ℕ, List, arith}
use Rattle.journal_log.specs.Reading.{OnlyReads}

module _ {D : Type 0} (image : D → List ℕ → Type 0) (moment : D → ℕ) (left_since : D → ℕ → List ℕ → Type 0) where
  -- no call
  pub reads_none : (old : D) → OnlyReads image moment left_since old old
  reads_none old = record { images = λ c now. now; later = omega arith; nothing_else = λ t c le left. left }

  -- one run after the other
  pub reads_then : (old mid new : D) → OnlyReads image moment left_since old mid → OnlyReads image moment left_since mid new → OnlyReads image moment left_since old new
  reads_then old mid new first second = record {
    images = λ c now. first.images c (second.images c now);
    later = omega (arith, first.later, second.later);
    nothing_else = λ t c le left. first.nothing_else t c le (second.nothing_else t c (omega (arith, le, first.later)) left);
  }
