-- The connected components of conditions, where a common variable connects two.
use Rattle.std.specs.Prelude.{ℕ, List, [], ◌∷◌, ◌≡◌, ◌<◌, ◌⊎◌, Bool, cond, Some, slice_get}
use Rattle.graph_patch.specs.Pattern.{HasVariable}
use Rattle.graph_patch.specs.declared.pattern.Pattern.{Pattern}

-- both have some variable
abbrev pub SharesVariable : Pattern → Pattern → Type 0
SharesVariable c d = (name : List ℕ) × HasVariable c name × HasVariable d name

-- the patterns at two positions have a variable in common
pub record Connects (patterns : List Pattern) (a b : ℕ) : Type 0 where
  pub first : Pattern
  pub second : Pattern
  pub is_first : slice_get patterns a ≡ Some first
  pub is_second : slice_get patterns b ≡ Some second
  pub shares : SharesVariable first second

-- connected patterns have one label
abbrev pub AreComponentLabels : List Pattern → List ℕ → Type 0
AreComponentLabels patterns labels =
    (a b : ℕ) → Connects patterns a b → slice_get labels a ≡ slice_get labels b

-- the same for the patterns before position i, and for that at i with those before position j
abbrev pub AreLabelledSoFar : List Pattern → List ℕ → ℕ → ℕ → Type 0
AreLabelledSoFar patterns labels i j =
    (a b : ℕ) → Connects patterns a b → ((a < i) × (b < i)) ⊎ ((a ≡ i) × (b < j))
    → slice_get labels a ≡ slice_get labels b

-- the patterns whose labels pass
abbrev pub selected : (ℕ → Bool) → List Pattern → List ℕ → List Pattern
selected passes [] labels = []
selected passes (c ∷ patterns) [] = []
selected passes (c ∷ patterns) (k ∷ labels) =
    cond (passes k) (c ∷ selected passes patterns labels) (selected passes patterns labels)
