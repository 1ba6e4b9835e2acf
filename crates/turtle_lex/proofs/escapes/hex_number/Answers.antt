use Rattle.std.proofs.Common.{ℕ, ◌<◌, ◌≤◌, ◌^◌, arith}
use Rattle.std.proofs.Math.Nat.{pow-le-pow_right}
use Rattle.turtle_lex.proofs.escapes.hex_number.Goals as goal

-- seven digits and fewer leave room for one more
small : (n i : ℕ) → n < 16 ^ i → i < 8 → n < 268435456
small n i h few =
    let zero_less : 0 < 16 = omega arith in
    let few_more : i ≤ 7 = omega arith in
    let bound : 16 ^ i ≤ 268435456 = pow-le-pow_right {n = 16} zero_less {i = i} {j = 7} few_more in
    omega arith

pub overflow_mul-number : goal.overflow_mul-number
overflow_mul-number c =
    let few : c.loop-digit.digit-index < 8 = omega arith in
    let h = small c.loop-digit.number c.loop-digit.digit-index c.loop-digit.invariant.fits few in
    omega arith

pub overflow_add-number : goal.overflow_add-number
overflow_add-number c =
    let few : c.loop-digit.digit-index < 8 = omega arith in
    let h = small c.loop-digit.number c.loop-digit.digit-index c.loop-digit.invariant.fits few in
    omega (arith, c.in_ok-number.ensures.small)
