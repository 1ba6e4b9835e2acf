-- The rule of a view's list, and what its steps give.
use Rattle.std.specs.Prelude.{ℕ, ◌≡◌, ◌==◌, true, List, [], ◌∷◌, ◌++◌, length, MatchBool}
use Rattle.logbook.specs.Pages.{Cell, Step, View, Book, Named}

module _ {I : Type 0} where
  -- the first of the two words is the length of the list
  abbrev pub HoldsLength : List Cell → List I → Type 0
  HoldsLength cells log = cells ≡ (length log, true) ∷ (0, true) ∷ []

  -- the item was added to all that had been seen; or the list was longer, and was seen
  abbrev pub AppendsItem : Step I → View I ℕ → ℕ → View I ℕ → Type 0
  AppendsItem s v found w =
      MatchBool (found == s.old) (w.0 ≡ v.0 ++ s.ask ∷ []) (length w.0 ≡ found)

-- the word of a book that holds the length
abbrev pub length_word : Book → Named
length_word b = record { tracked = true; key = 0; book = b }
