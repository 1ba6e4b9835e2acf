-- A new member has one path.
use Rattle.std.proofs.Common.{◌≡◌, ℕ, ◌<◌, Bool, List, inl, inr, sym, ◌∙◌, ap, arith}
use Rattle.std.proofs.lemmas.Bool.{false≢true, cases_lt}
use Rattle.slug_naming.specs.Laws.{HasOneName}
use Rattle.slug_naming.specs.Names.{IsFreeName, candidate_path, is_free}

module _ (t : List ℕ → Bool) (container stem : List ℕ) (folder : Bool) where
  -- no candidate before the first free one is free
  none_before : (p q : List ℕ) (h : IsFreeName t container stem folder p)
      (k : IsFreeName t container stem folder q) → h.number < k.number → ⊥
  none_before p q h k before =
      false≢true (sym (k.first h.number before) ∙ ap (is_free t) (sym h.is) ∙ h.free)

  one_number : (p q : List ℕ) (h : IsFreeName t container stem folder p)
      (k : IsFreeName t container stem folder q) → h.number ≡ k.number
  one_number p q h k =
      elim (cases_lt h.number k.number) as (λ _. h.number ≡ k.number) [
        | inl lt ↦ absurd (none_before p q h k lt)
        | inr le ↦ elim (cases_lt k.number h.number) as (λ _. h.number ≡ k.number) [
          | inl lt ↦ absurd (none_before q p k h lt)
          | inr more ↦ omega arith
        ]
      ]

pub one_free_name : HasOneName
one_free_name t container stem folder p q h k =
    h.is ∙ ap (candidate_path container stem folder) (one_number t container stem folder p q h k) ∙ sym k.is
