-- A stable sort.
use Rattle.std.specs.Prelude.{Bool, List, [], ◌∷◌, if◌then◌else◌}

-- x before the first element that isn't below it
unfoldable pub insert_sorted : {X : Type 0} → (X → X → Bool) → X → List X → List X
insert_sorted below x [] = x ∷ []
insert_sorted below x (y ∷ ys) =
    if below y x then y ∷ insert_sorted below x ys else x ∷ y ∷ ys

-- the elements in order; those of which neither is below the other keep theirs
unfoldable pub sorted : {X : Type 0} → (X → X → Bool) → List X → List X
sorted below [] = []
sorted below (x ∷ xs) = insert_sorted below x (sorted below xs)
