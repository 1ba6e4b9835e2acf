-- Relations between two lists, position by position.
use Rattle.std.specs.Prelude.{List, [], ◌∷◌}

-- The lists are of one length, and the relation holds at each position.
abbrev pub EachTo : {A B : Type 0} → (A → B → Type 0) → List A → List B → Type 0
EachTo R [] [] = Unit {0}
EachTo R [] (y ∷ ys) = ⊥
EachTo R (x ∷ xs) [] = ⊥
EachTo R (x ∷ xs) (y ∷ ys) = R x y × EachTo R xs ys
