-- How lines compare with a prefix.
use Rattle.std.proofs.Common.{ℕ, ◌≡◌, ◌≢◌, ◌<◌, ◌≤◌, List, [], ◌∷◌, ◌++◌, true, refl, sym, ◌∙◌, subst, arith, ⊎_elim}
use Rattle.std.proofs.lemmas.Bool.{cases_order, false≢true}
use Rattle.std.specs.Cmp.{nat_cmp_is}
use Rattle.std.specs.Cmp.Lexicographic.{slice_cmp}
use Rattle.std.specs.Ordering.{nat_cmp, ordering_then, ordering_index, is_lt, is_le}
use Rattle.std.specs.declared.cmp.Ordering.{Ordering}
use Rattle.std.specs.declared.cmp.Ordering.TheVariants.{Equal, Less, Greater}
use Rattle.rdf_graph.specs.Triple.{prefix_cmp}

at_least_less : (r : Ordering) → 0 ≤ ordering_index r
at_least_less r = omega arith

at_most_greater : (r : Ordering) → ordering_index r ≤ 2
at_most_greater Less = omega arith
at_most_greater Equal = omega arith
at_most_greater Greater = omega arith

-- after a common byte the rest decides
prefix_step : (x y b : ℕ) (w u v : Ordering) → ordering_then (nat_cmp x y) w ≢ Greater → (w ≢ Greater → ordering_index u ≤ ordering_index v) → ordering_index (ordering_then (nat_cmp x b) u) ≤ ordering_index (ordering_then (nat_cmp y b) v)
prefix_step x y b w u v h k =
    let not_above : y < x → ⊥ = λ above. h (rw (sym (nat_cmp_is x y Greater above)) refl) in
    let I : Ordering → ℕ = λ r. ordering_index (ordering_then r u) in
    let J : Ordering → ℕ = λ r. ordering_index (ordering_then r v) in
    ⊎_elim
    (λ (at : x ≡ b). ⊎_elim
    (λ (same : y ≡ b).
    let goes_on : w ≢ Greater = λ e. h (rw (sym (nat_cmp_is x y Equal (at ∙ sym same))) e) in
    subst (λ r. I r ≤ J (nat_cmp y b)) (nat_cmp_is x b Equal at) (subst (λ r. I Equal ≤ J r) (nat_cmp_is y b Equal same) (k goes_on)))
    (λ sides. ⊎_elim
    (λ (below : y < b). absurd (not_above (omega arith)))
    (λ (above : b < y). subst (λ r. I (nat_cmp x b) ≤ J r) (nat_cmp_is y b Greater above) (at_most_greater (ordering_then (nat_cmp x b) u)))
    sides)
    (cases_order y b))
    (λ sides. ⊎_elim
    (λ (below : x < b). subst (λ r. I r ≤ J (nat_cmp y b)) (nat_cmp_is x b Less below) (at_least_less (ordering_then (nat_cmp y b) v)))
    (λ (above : b < x). ⊎_elim
    (λ (same : y ≡ b). absurd (not_above (omega arith)))
    (λ others. ⊎_elim
    (λ (below : y < b). absurd (not_above (omega arith)))
    (λ (above' : b < y). subst (λ r. I (nat_cmp x b) ≤ J r) (nat_cmp_is y b Greater above') (at_most_greater (ordering_then (nat_cmp x b) u)))
    others)
    (cases_order y b))
    sides)
    (cases_order x b)

-- a line that is no greater than another compares no greater with a prefix
pub prefix_rises : (xs ys bs : List ℕ) → slice_cmp nat_cmp xs ys ≢ Greater → ordering_index (prefix_cmp xs bs) ≤ ordering_index (prefix_cmp ys bs)
prefix_rises xs ys [] h = omega arith
prefix_rises [] ys (b ∷ bs) h = at_least_less (prefix_cmp ys (b ∷ bs))
prefix_rises (x ∷ xs) [] (b ∷ bs) h = absurd (h refl)
prefix_rises (x ∷ xs) (y ∷ ys) (b ∷ bs) h =
    prefix_step x y b (slice_cmp nat_cmp xs ys) (prefix_cmp xs bs) (prefix_cmp ys bs) h (prefix_rises xs ys bs)

-- a line that begins so
pub prefix_itself : (bs xs : List ℕ) → prefix_cmp (bs ++ xs) bs ≡ Equal
prefix_itself [] xs = refl
prefix_itself (b ∷ bs) xs = rw (sym (nat_cmp_is b b Equal refl)) (prefix_itself bs xs)

pub lt-falls : (r s : Ordering) → ordering_index r ≤ ordering_index s → is_lt s ≡ true → is_lt r ≡ true
lt-falls Less s h e = refl
lt-falls Equal Less h e = absurd (omega (arith, h))
lt-falls Equal Equal h e = absurd (false≢true e)
lt-falls Equal Greater h e = absurd (false≢true e)
lt-falls Greater Less h e = absurd (omega (arith, h))
lt-falls Greater Equal h e = absurd (false≢true e)
lt-falls Greater Greater h e = absurd (false≢true e)

pub le-falls : (r s : Ordering) → ordering_index r ≤ ordering_index s → is_le s ≡ true → is_le r ≡ true
le-falls Less s h e = refl
le-falls Equal s h e = refl
le-falls Greater Less h e = absurd (omega (arith, h))
le-falls Greater Equal h e = absurd (omega (arith, h))
le-falls Greater Greater h e = absurd (false≢true e)
