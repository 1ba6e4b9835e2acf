-- Values that are joined one after another.
use Rattle.std.proofs.lemmas.List.{append-nil}
use Rattle.std.proofs.Common.{◌≡◌, ℕ, List, [], ◌∷◌, ◌++◌, refl, sym, ap, ◌∙◌, Some, Bool, true, false, cond, ◌||◌, map, filter}
use Rattle.std.specs.List.{join_with_byte, flat_map, list_any}
use Rattle.pod_base.specs.Fields.{is_named}
use Rattle.pod_base.specs.declared.field.Field.{Field}
use Rattle.field_list.specs.Joined.{added, joined_value}

-- what follows the first value are the further ones
pub join-further : (name : List ℕ) (first : List ℕ) (fields : List Field) → join_with_byte 44 (first ∷ map (λ f. f.value) (filter (is_named name) fields)) ≡ first ++ flat_map (added name) fields
join-further name first [] = sym (append-nil first)
join-further name first (f ∷ fields) =
    elim (is_named name f) as (λ b.
    join_with_byte 44 (first ∷ map (λ g. g.value) (cond b (f ∷ filter (is_named name) fields) (filter (is_named name) fields)))
    ≡ first ++ (cond b (44 ∷ f.value) [] ++ flat_map (added name) fields)) [
      | true ↦ ap (λ t. first ++ (44 ∷ t)) (join-further name f.value fields)
      | false ↦ join-further name first fields
    ]

-- no further field adds anything where none has the name
pub further-none : (name : List ℕ) (fields : List Field) → list_any (is_named name) fields ≡ false → flat_map (added name) fields ≡ []
further-none name [] = λ none. refl
further-none name (f ∷ fields) = step (is_named name f) (list_any (is_named name) fields) (flat_map (added name) fields) (44 ∷ f.value) (further-none name fields)
  where
    step : (b rest : Bool) (more value : List ℕ) → (rest ≡ false → more ≡ []) → (b || rest) ≡ false → cond b value [] ++ more ≡ []
    step true rest more value ih none = cc
    step false rest more value ih none = ih none

-- the first field of the name and the further ones make the value
pub named-first : (name : List ℕ) (f : Field) (more : List Field) (value : List ℕ) → is_named name f ≡ true → value ≡ f.value ++ flat_map (added name) more → Some value ≡ joined_value name (f ∷ more)
named-first name f more value named is = rw named (ap Some (is ∙ sym (join-further name f.value more)))
