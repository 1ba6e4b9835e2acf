-- Numbers that stop at a limit.
use Rattle.std.proofs.Common.{◌≡◌, ℕ, ◌+◌, ◌-◌, ◌*◌, List, [], ◌∷◌, sym, ap, ◌∙◌, arith}
use Rattle.range_req.specs.Numbers.{limited, value_after}

limited-digit : (n d : ℕ) → limited (limited n * 10 + d) ≡ limited (n * 10 + d)
limited-digit n d = omega arith

-- the digits after a number that stopped at the limit make what those after the number do
pub limited-after : (n : ℕ) (digits : List ℕ) → limited (value_after (limited n) digits) ≡ limited (value_after n digits)
limited-after n [] = omega arith
limited-after n (d ∷ digits) =
    sym (limited-after (limited n * 10 + (d - 48)) digits)
    ∙ ap (λ m. limited (value_after m digits)) (limited-digit n (d - 48))
    ∙ limited-after (n * 10 + (d - 48)) digits
