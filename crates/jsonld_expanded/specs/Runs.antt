-- Consecutive elements that agree.
use Rattle.std.specs.Prelude.{Bool, List, [], ◌∷◌, if◌then◌else◌}

-- x before the runs of what follows it: in the first one where it agrees with its first element
abbrev pub with_run : {X : Type 0} → (X → X → Bool) → X → List (List X) → List (List X)
with_run same x [] = (x ∷ []) ∷ []
with_run same x ([] ∷ rs) = (x ∷ []) ∷ [] ∷ rs
with_run same x ((y ∷ ys) ∷ rs) =
    if same x y then (x ∷ y ∷ ys) ∷ rs else (x ∷ []) ∷ (y ∷ ys) ∷ rs

-- the longest runs of consecutive elements of which each agrees with the next
unfoldable pub runs : {X : Type 0} → (X → X → Bool) → List X → List (List X)
runs same [] = []
runs same (x ∷ xs) = with_run same x (runs same xs)
