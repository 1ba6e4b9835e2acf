-- The values of the fields of a name, found one after another.
use Rattle.std.proofs.Common.{◌≡◌, ℕ, List, [], ◌∷◌, refl, sym, ap, ◌∙◌, Some, None, Bool, true, false, cond, ◌&&◌, ◌||◌, length, map, filter, find, count_by, arith}
use Rattle.std.proofs.lemmas.List.Sums.{length-filter}
use Rattle.std.specs.Option.{option_map}
use Rattle.std.specs.List.{list_any, slice_get}
use Rattle.pod_base.specs.Fields.{is_named}
use Rattle.pod_base.specs.declared.field.Field.{Field}
use Rattle.field_list.specs.Values.{only, only_value}
use Rattle.field_list.specs.Words.{has_word, some_has_word, names_word}

-- the first that passes is the first of those that pass
find-filter : (p : Field → Bool) (fields : List Field) → find p fields ≡ slice_get (filter p fields) 0
find-filter p [] = refl
find-filter p (f ∷ fields) =
    elim (p f) as (λ b. cond b (Some f) (find p fields) ≡ slice_get (cond b (f ∷ filter p fields) (filter p fields)) 0) [
      | true ↦ refl
      | false ↦ find-filter p fields
    ]

only-one : (named : List Field) → length named ≡ 1 → only (map (λ f. f.value) named) ≡ option_map (λ f. f.value) (slice_get named 0)
only-one [] one = cc
only-one (f ∷ []) one = refl
only-one (f ∷ g ∷ more) one = absurd (omega (arith, one))

only-other : (named : List Field) → (length named ≡ 1 → ⊥) → only (map (λ f. f.value) named) ≡ None
only-other [] other = refl
only-other (f ∷ []) other = absurd (other refl)
only-other (f ∷ g ∷ more) other = refl

-- the only field of the name is the first
pub one-value : (name : List ℕ) (fields : List Field) → count_by (is_named name) fields ≡ 1 → option_map (λ f. f.value) (find (is_named name) fields) ≡ only_value name fields
one-value name fields one =
    ap (option_map (λ f. f.value)) (find-filter (is_named name) fields)
    ∙ sym (only-one (filter (is_named name) fields) (length-filter (is_named name) fields ∙ one))

-- there isn't exactly one
pub no-value : (name : List ℕ) (fields : List Field) → (count_by (is_named name) fields ≡ 1 → ⊥) → None ≡ only_value name fields
no-value name fields other =
    sym (only-other (filter (is_named name) fields) (λ one. other (sym (length-filter (is_named name) fields) ∙ one)))

-- some field has the name and the word
pub any-word : (name word : List ℕ) (fields : List Field) → list_any (names_word name word) fields ≡ some_has_word name word fields
any-word name word [] = refl
any-word name word (f ∷ fields) =
    elim (is_named name f) as (λ b. ((b && has_word word f.value) || list_any (names_word name word) fields) ≡ list_any (has_word word) (map (λ g. g.value) (cond b (f ∷ filter (is_named name) fields) (filter (is_named name) fields)))) [
      | true ↦ ap (λ rest. has_word word f.value || rest) (any-word name word fields)
      | false ↦ any-word name word fields
    ]
