use Rattle.std.proofs.Common.{◌≡◌, true, sym, ◌∙◌}
use Rattle.std.specs.Char.{is_ascii_digit}
use Rattle.range_req.proofs.NoteLemmas.{first_past}
use Rattle.range_req.proofs.NumberDigits.{digit_low}
use Rattle.range_req.proofs.boundary_search.note_numbers.Goals as goal

-- it has no place
pub returns-then-number-noted : goal.returns-then-number-noted
returns-then-number-noted c =
    let digit : is_ascii_digit c.in-Some.digit.now ≡ true = sym c.is_ascii_digit.ensures.value ∙ c.if-not-is_ascii_digit.false in
    first_past c.args.noted.now c.args.text.now c.in-Some.rest.now c.in-Some.digit.now c.from-number.result c.in-Some.ensures.cases.0 digit (digit_low c.in-Some.digit.now digit) c.from-number.ensures c.if-number-noted.true
