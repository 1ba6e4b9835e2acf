-- How a walk over a text finds its first part, and what its parts join to.
use Rattle.std.proofs.Common.{◌≡◌, ℕ, List, [], ◌∷◌, ◌++◌, refl, sym, ap, ◌∙◌, append_assoc, Bool, true, false, cond}
use Rattle.std.specs.List.{onto_first, join_with_byte}
use Rattle.field_list.specs.Places.{parts_from, separates, next_place}
use Rattle.field_list.specs.declared.quoting.Quoting.{Quoting}
use Rattle.field_list.specs.declared.quoting.Place.{Place}
use Rattle.field_list.specs.declared.quoting.Place.TheVariants.{Outside, Inside, Escaped}
use Rattle.std.proofs.lemmas.Bool.{eqb-true}

-- the parts with a text before the first
abbrev pub onto : List ℕ → List (List ℕ) → List (List ℕ)
onto prefix [] = prefix ∷ []
onto prefix (part ∷ parts) = (prefix ++ part) ∷ parts

pub onto-onto_first : (prefix : List ℕ) (b : ℕ) (parts : List (List ℕ)) → onto prefix (onto_first b parts) ≡ onto (prefix ++ b ∷ []) parts
onto-onto_first prefix b [] = refl
onto-onto_first prefix b (part ∷ parts) = ap (λ p. p ∷ parts) (sym (append_assoc prefix (b ∷ []) part))

-- there is a first part
pub onto-nil : (quoting : Quoting) (separator : ℕ) (place : Place) (text : List ℕ) → parts_from quoting separator place text ≡ onto [] (parts_from quoting separator place text)
onto-nil quoting separator place [] = refl
onto-nil quoting separator place (b ∷ text) =
    elim (separates separator place b) as (λ s.
    cond s ([] ∷ parts_from quoting separator Outside text) (onto_first b (parts_from quoting separator (next_place quoting place b) text))
    ≡ onto [] (cond s ([] ∷ parts_from quoting separator Outside text) (onto_first b (parts_from quoting separator (next_place quoting place b) text)))) [
      | true ↦ refl
      | false ↦ first b (parts_from quoting separator (next_place quoting place b) text)
    ]
  where
    first : (b : ℕ) (parts : List (List ℕ)) → onto_first b parts ≡ onto [] (onto_first b parts)
    first b [] = refl
    first b (part ∷ parts) = refl

join-onto_first : (separator b : ℕ) (parts : List (List ℕ)) → join_with_byte separator (onto_first b parts) ≡ b ∷ join_with_byte separator parts
join-onto_first separator b [] = refl
join-onto_first separator b (part ∷ []) = refl
join-onto_first separator b (part ∷ next ∷ parts) = refl

join-nil-onto : (separator : ℕ) (parts : List (List ℕ)) → join_with_byte separator ([] ∷ onto [] parts) ≡ separator ∷ join_with_byte separator (onto [] parts)
join-nil-onto separator [] = refl
join-nil-onto separator (part ∷ parts) = refl

separator-is : (separator : ℕ) (place : Place) (b : ℕ) → separates separator place b ≡ true → b ≡ separator
separator-is separator Outside b is = eqb-true b separator is
separator-is separator Inside b is = cc
separator-is separator Escaped b is = cc

join-step : (quoting : Quoting) (separator : ℕ) (place : Place) (b : ℕ) (text : List ℕ) (s : Bool) → separates separator place b ≡ s
    → join_with_byte separator (parts_from quoting separator Outside text) ≡ text
    → join_with_byte separator (parts_from quoting separator (next_place quoting place b) text) ≡ text
    → join_with_byte separator (cond s ([] ∷ parts_from quoting separator Outside text) (onto_first b (parts_from quoting separator (next_place quoting place b) text))) ≡ b ∷ text
join-step quoting separator place b text true is outside here =
    ap (λ parts. join_with_byte separator ([] ∷ parts)) (onto-nil quoting separator Outside text)
    ∙ join-nil-onto separator (parts_from quoting separator Outside text)
    ∙ ap (λ parts. separator ∷ join_with_byte separator parts) (sym (onto-nil quoting separator Outside text))
    ∙ ap (λ t. separator ∷ t) outside
    ∙ ap (λ s. s ∷ text) (sym (separator-is separator place b is))
join-step quoting separator place b text false is outside here =
    join-onto_first separator b (parts_from quoting separator (next_place quoting place b) text)
    ∙ ap (λ t. b ∷ t) here

-- the parts join to the text
pub join-parts : (quoting : Quoting) (separator : ℕ) (place : Place) (text : List ℕ) → join_with_byte separator (parts_from quoting separator place text) ≡ text
join-parts quoting separator place [] = refl
join-parts quoting separator place (b ∷ text) =
    join-step quoting separator place b text (separates separator place b) refl
    (join-parts quoting separator Outside text)
    (join-parts quoting separator (next_place quoting place b) text)
