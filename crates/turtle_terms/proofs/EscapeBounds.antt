-- The number of a UCHAR fits its type.
use Rattle.std.proofs.Common.{◌≡◌, ℕ, suc, ◌+◌, ◌-◌, ◌*◌, ◌^◌, ◌<◌, ◌≤◌, arith, subst, sym, ap, ◌∙◌}
use Rattle.std.proofs.Math.Nat.{pow-le-pow_right, pow-suc}

pub small : (more number : ℕ) → more ≤ 7 → number < 64 ^ (7 - more) → number < 4398046511104
small more number few h =
    let positive : 0 < 64 = omega arith in
    let at_most : 7 - more ≤ 7 = omega arith in
    let top : 64 ^ (7 - more) ≤ 4398046511104 = pow-le-pow_right {n = 64} positive {i = 7 - more} {j = 7} at_most in
    omega arith

-- a factor of 16 and a digit are less than a factor of 64, once there is a digit
times : (n d p : ℕ) → n < p → d ≤ 36 → n * 16 + d < p * 64
times n d p h small = omega arith

pub one_digit : (more number digit : ℕ) → (more ≡ 0 → ⊥) → more ≤ 7 → number < 64 ^ (7 - more) → digit ≤ 36
    → (more - 1 ≤ 7) × (number * 16 + digit < 64 ^ (7 - (more - 1)))
one_digit more number digit some few h small_digit =
    let next : 7 - (more - 1) ≡ suc (7 - more) = omega arith in
    let power : 64 ^ suc (7 - more) ≡ 64 ^ (7 - more) * 64 = pow-suc 64 (7 - more) in
    (omega arith, subst (λ (p : ℕ). number * 16 + digit < p) (sym (ap (λ (e : ℕ). 64 ^ e) next ∙ power)) (times number digit (64 ^ (7 - more)) h small_digit))
