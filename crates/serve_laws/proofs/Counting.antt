-- Numbers that are counted once each.
use Rattle.std.proofs.Common.{◌≡◌, ◌≢◌, inl, inr, ℕ, zero, suc, ◌+◌, ◌<◌, ◌≤◌, ◌==◌, Bool, if◌then◌else◌, refl, sym, ap, subst, arith}
use Rattle.std.proofs.lemmas.Bool.Decides.{eqb_tells}

abbrev pub one_if : Bool → ℕ
one_if b = if b then 1 else 0

pub counts_equal : (p q : ℕ) → p ≡ q → one_if (p == q) ≡ 1
counts_equal p q same = elim (eqb_tells p q) [ inl w ↦ ap one_if w.0 | inr w ↦ absurd (w.1 same) ]

pub counts_none : (p q : ℕ) → p ≢ q → one_if (p == q) ≡ 0
counts_none p q other = elim (eqb_tells p q) [ inl w ↦ absurd (other w.1) | inr w ↦ ap one_if w.0 ]

-- the sum of the first n values
abbrev pub sum_below : (ℕ → ℕ) → ℕ → ℕ
sum_below f zero = 0
sum_below f (suc n) = sum_below f n + f n

pub sum_none : (n : ℕ) → sum_below (λ k. 0) n ≡ 0
sum_none zero = refl
sum_none (suc n) = omega (arith, sum_none n)

pub sum_both : (f g : ℕ → ℕ) (n : ℕ) → sum_below (λ k. f k + g k) n ≡ sum_below f n + sum_below g n
sum_both f g zero = refl
sum_both f g (suc n) = omega (arith, sum_both f g n)

sum_at_most : (f : ℕ → ℕ) (n : ℕ) → ((k : ℕ) → k < n → f k ≤ 1) → sum_below f n ≤ n
sum_at_most f zero h = omega arith
sum_at_most f (suc n) h = omega (arith, sum_at_most f n (λ k l. h k (omega (arith, l))), h n (omega arith))

-- n values of at most 1 whose sum is n or more are all 1
pub once_each : (f : ℕ → ℕ) (n : ℕ) → ((k : ℕ) → k < n → f k ≤ 1) → n ≤ sum_below f n → (k : ℕ) → k < n → f k ≡ 1
once_each f zero h full k less = absurd (omega (arith, less))
once_each f (suc n) h full k less =
    let below : (j : ℕ) → j < n → f j ≤ 1 = λ j l. h j (omega (arith, l)) in
    let last : f n ≡ 1 = omega (arith, full, h n (omega arith), sum_at_most f n below) in
    elim (eqb_tells k n) [
      | inl w ↦ subst (λ m. f m ≡ 1) (sym w.1) last
      | inr w ↦ once_each f n below (omega (arith, full, last)) k (let ne : k ≢ n = w.1 in omega (arith, less))
    ]

-- of the numbers from `base` on, a number is met once
zero_before : (base place n : ℕ) → base + n ≤ place → sum_below (λ k. one_if (place == base + k)) n ≡ 0
zero_before base place zero h = refl
zero_before base place (suc n) h = omega (arith, zero_before base place n (omega (arith, h)), counts_none place (base + n) (λ e. omega (arith, e, h)))

pub one_within : (base place n : ℕ) → base ≤ place → place < base + n → sum_below (λ k. one_if (place == base + k)) n ≡ 1
one_within base place zero from to = absurd (omega (arith, from, to))
one_within base place (suc n) from to = elim (eqb_tells place (base + n)) [
  | inl w ↦ omega (arith, zero_before base place n (omega (arith, w.1)), counts_equal place (base + n) w.1)
  | inr w ↦ let ne : place ≢ base + n = w.1 in omega (arith, one_within base place n from (omega (arith, to)), counts_none place (base + n) ne)
]
