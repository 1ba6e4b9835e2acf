-- As many different texts as a list has, and no more, are in it.
use Rattle.std.proofs.Common.{◌≡◌, ℕ, suc, zero, ◌<◌, ◌≤◌, Bool, true, false, cond, eqb, inl, inr, List, length, get_or, refl, sym, ap, subst, ◌∙◌, arith, eq-eqb}
use Rattle.std.specs.Prelude.{bytes_eq, map, ◌≢◌}
use Rattle.std.specs.List.{Contains, list_any}
use Rattle.std.proofs.lemmas.Bool.Decides.{eqb_tells}
use Rattle.std.proofs.lemmas.List.{length-map, get_or-map}
use Rattle.std.proofs.lemmas.List.Folds.{list_any_at}
use Rattle.std.proofs.lemmas.Map.Steps.{le-length_from_below}
use Rattle.std.proofs.lemmas.Slice.Eq.{bytes_eq-Decides}

-- the number below n whose text this is
abbrev number_of : (ℕ → List ℕ) → ℕ → List ℕ → ℕ
number_of f zero text = 0
number_of f (suc n) text = cond (bytes_eq (f n) text) n (number_of f n text)

abbrev pub AreDifferent : (ℕ → List ℕ) → ℕ → Type 0
AreDifferent f n = (i j : ℕ) → i < n → j < n → f i ≡ f j → i ≡ j

number_is : (f : ℕ → List ℕ) (n k : ℕ) → AreDifferent f n → k < n → number_of f n (f k) ≡ k
number_is f zero k d lt = absurd (omega arith)
number_is f (suc n) k d lt = by_test (bytes_eq (f n) (f k)) refl (λ below. number_is f n k (λ i j li lj. d i j (omega arith) (omega arith)) below)
  where
    by_test : (b : Bool) → bytes_eq (f n) (f k) ≡ b → (k < n → number_of f n (f k) ≡ k) → cond b n (number_of f n (f k)) ≡ k
    by_test true e below = d n k (omega arith) lt ((bytes_eq-Decides (f n) (f k)).0 e)
    by_test false e below =
        elim (eqb_tells n k) [
          | inl w ↦ absurd (let yes : true ≡ false = sym ((bytes_eq-Decides (f n) (f k)).1 (ap f w.1)) ∙ e in cc)
          | inr w ↦ below (let ne : n ≢ k = w.1 in omega arith)
        ]

pub no_more_than : (f : ℕ → List ℕ) (n : ℕ) (texts : List (List ℕ)) → AreDifferent f n → ((k : ℕ) → k < n → Contains texts (f k)) → n ≤ length texts
no_more_than f n texts d all =
    subst (λ (m : ℕ). n ≤ m) (length-map texts (number_of f n)) (le-length_from_below (map (number_of f n) texts) n has)
  where
    has : (q : ℕ) → q < n → list_any (eqb q) (map (number_of f n) texts) ≡ true
    has q lt =
        let at = all q lt in
        let here : get_or (map (number_of f n) texts) at.0 0 ≡ q = get_or-map (number_of f n) texts at.0 (f q) 0 at.1 ∙ ap (number_of f n) at.2 ∙ number_is f n q d lt in
        list_any_at (eqb q) (map (number_of f n) texts) at.0 0 (subst (λ (m : ℕ). at.0 < m) (sym (length-map texts (number_of f n))) at.1) (eq-eqb q (get_or (map (number_of f n) texts) at.0 0) (sym here))
