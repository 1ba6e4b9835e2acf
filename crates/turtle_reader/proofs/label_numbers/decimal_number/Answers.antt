use Rattle.std.proofs.Common.{◌≡◌, true, Ok, decimal, sym, ap, ◌∙◌}
use Rattle.std.proofs.lemmas.Fmt.{parse-decimal}
use Rattle.std.proofs.lemmas.Slice.Eq.{bytes_eq-Decides}
use Rattle.turtle_reader.proofs.label_numbers.decimal_number.Goals as goal

pub returns-else-eq-clause-none : goal.returns-else-eq-clause-none
returns-else-eq-clause-none c = λ n small e.
    let parsed = parse-decimal 64 n c.args.digits.now c.parse.result small small e c.parse.ensures.value.0 in
    let same : Ok c.in-Ok.number ≡ Ok n = sym c.in-Ok.is ∙ parsed in
    let number : c.in-Ok.number ≡ n = cc in
    let texts : c.format.result.now ≡ c.args.digits.now = c.format.ensures.text ∙ ap decimal number ∙ sym e in
    let found : c.eq.result ≡ true = c.eq.ensures ∙ (bytes_eq-Decides c.format.result.now c.args.digits.now).1 texts in
    let lost = c.if-eq.false in cc

pub returns-in-Err-clause-none : goal.returns-in-Err-clause-none
returns-in-Err-clause-none c = λ n small e.
    let parsed = parse-decimal 64 n c.args.digits.now c.parse.result small small e c.parse.ensures.value.0 in
    let failed = c.in-Err.is in cc
