-- What the code keeps of labels.
use Rattle.std.specs.Prelude.{◌≡◌, ◌≤◌, ◌<◌, ℕ, Bool, true, false, List, length, Option, Some}
use Rattle.std.specs.Prelude.{Result}
use Rattle.std.specs.List.{slice_get}
use Rattle.turtle_lex.specs.declared.token.Token.{Token}
use Rattle.turtle_lex.specs.declared.token.LexFault.{LexFault}
use Rattle.turtle_lex.specs.Tokens.{IsAnswer, IsEnd}
use Rattle.turtle_reader.specs.Unnamed.{HasNumbersOf, IsUnnamed, free_below}

-- the tokens of the bytes end at this position
abbrev pub HasEnd : List ℕ → ℕ → Type 0
HasEnd bytes at = (last : Result (Option Token) LexFault) × IsAnswer bytes at last × IsEnd last

-- n is the first number from `from` on that the set doesn't have
pub record IsNextFree (has : ℕ → Bool) (from n : ℕ) : Type 0 where
  pub least : from ≤ n
  pub free : has n ≡ false
  pub before : (m : ℕ) → from ≤ m → m < n → has m ≡ true

-- The labels of the first unnamed nodes: those below `next` are given.
pub record AreGiven (written : List (List ℕ)) (labels : List (List ℕ)) (next : ℕ) : Type 0 where
  pub each : (k : ℕ) (label : List ℕ) → slice_get labels k ≡ Some label → IsUnnamed written k label
  pub count : free_below written next ≡ length labels

-- whichever labels have these numbers
abbrev pub AreGivenBeside : (ℕ → Bool) → List (List ℕ) → ℕ → Type 0
AreGivenBeside has labels next = (written : List (List ℕ)) → HasNumbersOf has written
    → AreGiven written labels next
