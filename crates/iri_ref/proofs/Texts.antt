-- Tests of all characters of a text.
use Rattle.std.proofs.Common.{◌≡◌, ℕ, suc, ◌<◌, Bool, true, false, not, ◌&&◌, eqb, List, [], ◌∷◌, ◌++◌, length, get_or, refl, sym, ap, ◌∙◌, arith}
use Rattle.std.specs.Prelude.{IsTrue}
use Rattle.std.specs.List.{list_all}
use Rattle.std.proofs.lemmas.Bool.{ne_eqb}
use Rattle.std.proofs.lemmas.List.Folds.{list_all-append}
use Rattle.iri_ref.specs.Characters.{Lacks}

pub and_left : (a b : Bool) → IsTrue (a && b) → IsTrue a
and_left true b h = refl
and_left false b h = h

pub and_right : (a b : Bool) → IsTrue (a && b) → IsTrue b
and_right true b h = h
and_right false b h = absurd cc

pub and_both : (a b : Bool) → IsTrue a → IsTrue b → IsTrue (a && b)
and_both true b ha hb = hb
and_both false b ha hb = ha

pub all_left : (test : ℕ → Bool) (xs ys : List ℕ) → IsTrue (list_all test (xs ++ ys)) → IsTrue (list_all test xs)
all_left test xs ys h = and_left _ (list_all test ys) (sym (list_all-append test xs ys) ∙ h)

pub all_right : (test : ℕ → Bool) (xs ys : List ℕ) → IsTrue (list_all test (xs ++ ys)) → IsTrue (list_all test ys)
all_right test xs ys h = and_right (list_all test xs) _ (sym (list_all-append test xs ys) ∙ h)

pub all_append : (test : ℕ → Bool) (xs ys : List ℕ) → IsTrue (list_all test xs) → IsTrue (list_all test ys) → IsTrue (list_all test (xs ++ ys))
all_append test xs ys hx hy = list_all-append test xs ys ∙ and_both _ _ hx hy

-- what passes one test passes a weaker one
pub all_weaker : (p q : ℕ → Bool) → ((c : ℕ) → IsTrue (p c) → IsTrue (q c)) → (xs : List ℕ) → IsTrue (list_all p xs) → IsTrue (list_all q xs)
all_weaker p q w [] h = refl
all_weaker p q w (x ∷ xs) h = and_both _ _ (w x (and_left _ (list_all p xs) h)) (all_weaker p q w xs (and_right (p x) _ h))

-- a text of which each read differs from the mark
pub lacks_from_reads : (mark : ℕ) (xs : List ℕ) → ((i : ℕ) → i < length xs → get_or xs i 0 ≡ mark → ⊥) → Lacks (λ c. eqb c mark) xs
lacks_from_reads mark [] h = refl
lacks_from_reads mark (x ∷ xs) h =
    and_both _ _ (ap not (ne_eqb x mark (h 0 (omega arith)))) (lacks_from_reads mark xs (λ i lt. h (suc i) (omega arith)))
