-- Preconditions among fields, found one after another.
use Rattle.std.proofs.Common.{◌≡◌, true, false, cond, List, [], ◌∷◌, ◌++◌, refl, append_assoc}
use Rattle.pod_base.specs.declared.field.Field.{Field}
use Rattle.conditional_req.specs.Conditions.{conditions, with_condition, is_condition}

-- the next field is kept or not
pub one_more : (kept : List Field) (field : Field) (more : List Field) → with_condition kept field ++ conditions more ≡ kept ++ conditions (field ∷ more)
one_more kept field more =
    elim (is_condition field) as (λ b. cond b (kept ++ field ∷ []) kept ++ conditions more ≡ kept ++ cond b (field ∷ conditions more) (conditions more)) [
      | true ↦ append_assoc kept (field ∷ []) (conditions more)
      | false ↦ refl
    ]
