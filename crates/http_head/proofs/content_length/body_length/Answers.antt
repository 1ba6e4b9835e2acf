use Rattle.std.proofs.Common.{◌≡◌, ℕ, ◌+◌, ◌-◌, ◌*◌, ◌^◌, ◌<◌, nat_le, List, ◌∷◌, length, drop, get_or, Some, None, if◌then◌else◌, sym, ap, ◌∙◌, arith, add-one}
use Rattle.std.proofs.Math.Seq.{drop-cons}
use Rattle.std.proofs.lemmas.Bool.Decides.{nat_tests}
use Rattle.http_head.specs.Decimals.{number_of}
use Rattle.http_head.proofs.DecimalLemmas.{digit_more, number_grows}
use Rattle.http_head.proofs.content_length.body_length.Goals as goal

past_limit : (n : ℕ) → 8_388_608 < n → None ≡ (if nat_le n 8_388_608 then Some n else None)
past_limit n h = grind (arith, nat_tests)

step : (n d : ℕ) (digits rest : List ℕ) (all : ℕ) → digits ≡ d ∷ rest → n * 10 ^ length digits + number_of digits ≡ all → (n * 10 + (d - 48)) * 10 ^ length rest + number_of rest ≡ all
step n d digits rest all cons h =
    sym (digit_more n (d - 48) (length rest) (number_of rest)) ∙ sym (ap (λ ds. n * 10 ^ length ds + number_of ds) cons) ∙ h

-- the digits so far are past the limit, and the others make no smaller number
pub returns-then-number-gt-BODY_LIMIT : goal.returns-then-number-gt-BODY_LIMIT
returns-then-number-gt-BODY_LIMIT c =
    let digits : List ℕ = c.args.digits.now in
    let i : ℕ = c.loop-digit.digit-index in
    let n : ℕ = c.loop-digit.number in
    let d : ℕ = get_or digits i 0 in
    let rest : List ℕ = drop (i + 1) digits in
    let cons : drop i digits ≡ d ∷ rest = rw add-one (drop-cons digits i 0 c.loop-digit-test.true) in
    let all = step n d (drop i digits) rest (number_of digits) cons c.loop-digit.invariant.1 in
    let grows = number_grows (n * 10 + (d - 48)) (length rest) (number_of rest) in
    past_limit (number_of digits) (omega (arith, all, grows))

-- one digit more
pub loop-digit-preserved : goal.loop-digit-preserved
loop-digit-preserved c =
    let digits : List ℕ = c.args.digits.now in
    let i : ℕ = c.loop-digit.digit-index in
    let n : ℕ = c.loop-digit.number in
    let d : ℕ = get_or digits i 0 in
    let rest : List ℕ = drop (i + 1) digits in
    let cons : drop i digits ≡ d ∷ rest = rw add-one (drop-cons digits i 0 c.loop-digit-test.true) in
    let more : c.from.result ≡ d - 48 = omega arith in
    (omega arith, ap (λ x. (n * 10 + x) * 10 ^ length rest + number_of rest) more ∙ step n d (drop i digits) rest (number_of digits) cons c.loop-digit.invariant.1)
