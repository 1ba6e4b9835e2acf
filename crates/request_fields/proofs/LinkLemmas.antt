-- How a walk over a Link field's value finds its first link.
use Rattle.std.proofs.Common.{◌≡◌, ℕ, List, [], ◌∷◌, ◌++◌, refl, sym, ap, append_assoc, true, false, cond}
use Rattle.std.specs.List.{onto_first}
use Rattle.request_fields.specs.LinkValues.{link_parts_from, separates, next_place}
use Rattle.request_fields.specs.declared.link_splitting.LinkPlace.{LinkPlace}
use Rattle.request_fields.specs.declared.link_splitting.LinkPlace.TheVariants.{Start}

-- the parts with a text before the first
abbrev pub onto : List ℕ → List (List ℕ) → List (List ℕ)
onto prefix [] = prefix ∷ []
onto prefix (part ∷ parts) = (prefix ++ part) ∷ parts

pub onto-onto_first : (prefix : List ℕ) (b : ℕ) (parts : List (List ℕ)) → onto prefix (onto_first b parts) ≡ onto (prefix ++ b ∷ []) parts
onto-onto_first prefix b [] = refl
onto-onto_first prefix b (part ∷ parts) = ap (λ p. p ∷ parts) (sym (append_assoc prefix (b ∷ []) part))

-- there is a first part
pub onto-nil : (place : LinkPlace) (text : List ℕ) → link_parts_from place text ≡ onto [] (link_parts_from place text)
onto-nil place [] = refl
onto-nil place (b ∷ text) =
    elim (separates place b) as (λ s.
    cond s ([] ∷ link_parts_from Start text) (onto_first b (link_parts_from (next_place place b) text))
    ≡ onto [] (cond s ([] ∷ link_parts_from Start text) (onto_first b (link_parts_from (next_place place b) text)))) [
      | true ↦ refl
      | false ↦ first b (link_parts_from (next_place place b) text)
    ]
  where
    first : (b : ℕ) (parts : List (List ℕ)) → onto_first b parts ≡ onto [] (onto_first b parts)
    first b [] = refl
    first b (part ∷ parts) = refl
