use Rattle.std.proofs.Common.{◌≡◌, true, sym, ◌∙◌, arith}
use Rattle.std.specs.Char.{is_ascii_digit}
use Rattle.range_req.proofs.NoteLemmas.{noted_tens, digit_past, digit_adds, longer_none}
use Rattle.range_req.proofs.boundary_search.note_longer.Goals as goal

-- all further ones are past the notes
pub returns-then-number-noted : goal.returns-then-number-noted
returns-then-number-noted c = c.loop-digit.invariant.adds c.loop-digit.noted (noted_tens c.loop-digit.noted c.loop-digit.rest.now c.loop-digit.number c.if-number-noted.true)

pub returns-then-number-noted-2 : goal.returns-then-number-noted-2
returns-then-number-noted-2 c =
    let digit : is_ascii_digit c.in-Some.digit.now ≡ true = sym c.is_ascii_digit.ensures.value ∙ c.if-not-is_ascii_digit.false in
    c.loop-digit.invariant.adds c.loop-digit.noted
    (digit_past c.loop-digit.noted c.loop-digit.rest.now c.in-Some.more.now c.loop-digit.number c.in-Some.digit.now c.from.result c.loop-digit.invariant.some c.in-Some.ensures.cases.0 digit c.from.ensures c.if-number-noted-2.true)

-- one number more
pub loop-digit-preserved : goal.loop-digit-preserved
loop-digit-preserved c =
    let digit : is_ascii_digit c.in-Some.digit.now ≡ true = sym c.is_ascii_digit.ensures.value ∙ c.if-not-is_ascii_digit.false in
    record {
      some = omega (arith, c.loop-digit.invariant.some);
      adds = λ new h. c.loop-digit.invariant.adds new
          (digit_adds c.loop-digit.noted new c.loop-digit.rest.now c.in-Some.more.now c.loop-digit.number c.in-Some.digit.now c.from.result c.in-Some.ensures.cases.0 digit c.from.ensures c.if-number-noted-2.false h);
    }

-- nothing is left
pub returns : goal.returns
returns c = c.loop-digit.invariant.adds c.loop-digit.noted (longer_none c.loop-digit.noted c.loop-digit.rest.now c.loop-digit.number c.in_default.ensures.cases)
