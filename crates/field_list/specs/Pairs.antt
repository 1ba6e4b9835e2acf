-- Texts of two parts around a separator.
use Rattle.std.specs.Prelude.{ℕ, List, [], ◌∷◌, Option, Some, None}
use Rattle.field_list.specs.Parts.{parts}
use Rattle.field_list.specs.declared.quoting.Quoting.{Quoting}

pub record Pair : Type 0 where
  pub first : List ℕ
  pub second : List ℕ

abbrev pub pair : List ℕ → List ℕ → Pair
pair first second = record { first = first; second = second }

-- the pair that a list of two texts is
abbrev pub only_two : List (List ℕ) → Option Pair
only_two [] = None
only_two (first ∷ []) = None
only_two (first ∷ second ∷ []) = Some (pair first second)
only_two (first ∷ second ∷ third ∷ more) = None

-- the two parts of a text; none where it has another number of parts
abbrev pub split_pair : Quoting → ℕ → List ℕ → Option Pair
split_pair quoting separator text = only_two (parts quoting separator text)
