-- The names of variables that the code collects.
use Rattle.std.specs.Prelude.{ℕ, List, ◌≡◌, ◌↔◌, ◌⊎◌, true}
use Rattle.std.specs.BTreeSet.{BTreeSet, contains}
use Rattle.std.specs.Cmp.Lexicographic.{slice_cmp}
use Rattle.std.specs.Ordering.{nat_cmp}
use Rattle.graph_patch.specs.declared.pattern.Slot.{Slot}
use Rattle.graph_patch.specs.declared.pattern.Slot.TheVariants.{Var}

-- the set has this name
abbrev pub HasName : BTreeSet (List ℕ) → List ℕ → Type 0
HasName names name = contains (slice_cmp nat_cmp) names name ≡ true

-- the second set has these names besides those of the first, and no others
abbrev pub AddsNames : BTreeSet (List ℕ) → (List ℕ → Type 0) → BTreeSet (List ℕ) → Type 0
AddsNames names is_one after =
    (name : List ℕ) → HasName after name ↔ (HasName names name ⊎ is_one name)

abbrev pub AddsSlot : BTreeSet (List ℕ) → Slot → BTreeSet (List ℕ) → Type 0
AddsSlot names slot after = AddsNames names (λ name. slot ≡ Var name) after
