-- Bytes but for slashes, one after another.
use Rattle.std.proofs.Common.{◌≡◌, ℕ, true, false, not, cond, List, [], ◌∷◌, ◌++◌, ap, append_assoc}
use Rattle.std.proofs.lemmas.List.{append-nil}
use Rattle.iri_ref.specs.Characters.{is_slash}
use Rattle.slug_naming.specs.Stems.{without_slashes}

-- the next byte is kept or not
pub one_more : (kept : List ℕ) (b : ℕ) (more : List ℕ) → (kept ++ without_slashes (b ∷ [])) ++ without_slashes more ≡ kept ++ without_slashes (b ∷ more)
one_more kept b more =
    elim (not (is_slash b)) as (λ x. (kept ++ cond x (b ∷ []) []) ++ without_slashes more ≡ kept ++ cond x (b ∷ without_slashes more) (without_slashes more)) [
      | true ↦ append_assoc kept (b ∷ []) (without_slashes more)
      | false ↦ ap (λ t. t ++ without_slashes more) (append-nil kept)
    ]
