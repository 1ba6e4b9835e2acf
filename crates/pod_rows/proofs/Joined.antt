-- How two texts, one after the other, compare with a third.
use Rattle.std.proofs.Common.{◌≡◌, ℕ, List, [], ◌∷◌, ◌++◌, refl, sym, ap, ◌∙◌}
use Rattle.std.specs.declared.cmp.Ordering.{Ordering}
use Rattle.std.specs.declared.cmp.Ordering.TheVariants.{Less, Equal, Greater}
use Rattle.std.specs.Ordering.{nat_cmp, ordering_then}
use Rattle.std.specs.Cmp.Lexicographic.{slice_cmp}
use Rattle.std.proofs.lemmas.Cmp.{tied_itself, nat_cmp_total, ranked}

-- after the same beginning the rests decide
pub joined_after : (first second rest : List ℕ) → slice_cmp nat_cmp (first ++ second) (first ++ rest) ≡ slice_cmp nat_cmp second rest
joined_after [] second rest = refl
joined_after (c ∷ cs) second rest = ap (λ o. ordering_then o (slice_cmp nat_cmp (cs ++ second) (cs ++ rest))) (tied_itself nat_cmp_total c) ∙ joined_after cs second rest

-- where a text doesn't begin with the first, the second doesn't matter
pub joined_apart : (first second text : List ℕ) → ((rest : List ℕ) → text ≡ first ++ rest → ⊥) → slice_cmp nat_cmp (first ++ second) text ≡ slice_cmp nat_cmp first text
joined_apart [] second text apart = absurd (apart text refl)
joined_apart (c ∷ cs) second [] apart = refl
joined_apart (c ∷ cs) second (d ∷ ds) apart =
    heads (nat_cmp c d) refl (λ same. joined_apart cs second ds (λ rest is. apart rest (ap (λ x. x ∷ ds) (sym same) ∙ ap (λ xs. c ∷ xs) is)))
  where
    heads : (o : Ordering) → nat_cmp c d ≡ o → (c ≡ d → slice_cmp nat_cmp (cs ++ second) ds ≡ slice_cmp nat_cmp cs ds) → ordering_then o (slice_cmp nat_cmp (cs ++ second) ds) ≡ ordering_then o (slice_cmp nat_cmp cs ds)
    heads Less e more = refl
    heads Greater e more = refl
    heads Equal e more = more (ranked c d Equal (sym e))
