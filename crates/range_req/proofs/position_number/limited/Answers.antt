use Rattle.std.proofs.Common.{◌≡◌, ℕ, ◌+◌, ◌-◌, ◌*◌, List, ◌∷◌, drop, get_or, sym, ap, ◌∙◌, arith, add-one}
use Rattle.std.proofs.Math.Seq.{drop-cons}
use Rattle.range_req.specs.Numbers.{limited, value_after}
use Rattle.range_req.proofs.NumberLemmas.{limited-after}
use Rattle.range_req.proofs.position_number.limited.Goals as goal

-- one digit more
pub loop-digit-preserved : goal.loop-digit-preserved
loop-digit-preserved c =
    let digits : List ℕ = c.args.digits.now in
    let i : ℕ = c.loop-digit.digit-index in
    let n : ℕ = c.loop-digit.number in
    let d : ℕ = get_or digits i 0 in
    let rest : List ℕ = drop (i + 1) digits in
    let cons : drop i digits ≡ d ∷ rest = rw add-one (drop-cons digits i 0 c.loop-digit-test.true) in
    let next : c.min-number.result ≡ limited (n * 10 + (d - 48)) = omega arith in
    record {
      bound = omega arith;
      rest = ap (λ m. limited (value_after m rest)) next ∙ limited-after (n * 10 + (d - 48)) rest ∙ ap (λ ds. limited (value_after n ds)) (sym cons) ∙ c.loop-digit.invariant.rest;
    }
