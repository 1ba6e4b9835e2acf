use Rattle.std.proofs.Common.{◌<◌, ◌≤◌, inl, inr, length, arith}
use Rattle.turtle_lex.proofs.NumberLemmas.{pointed_double, pointed_decimal, pointed_integer, no_pointed}
use Rattle.turtle_lex.proofs.numbers.pointed_number.Goals as goal

pub returns-in-Some-clause-found : goal.returns-in-Some-clause-found
returns-in-Some-clause-found c =
    pointed_double _ c.args.digits.now c.args.fraction.now c.strip_run-after.result.now _ c.requires.run c.requires.point c.strip_run-after.ensures.run (inr c.if-after-fraction.true) c.in-Some.ensures.matches c.in-Some.ensures.shorter

pub returns-in-None-clause-found : goal.returns-in-None-clause-found
returns-in-None-clause-found c =
    pointed_decimal _ c.args.digits.now c.args.fraction.now c.strip_run-after.result.now c.requires.run c.requires.point c.strip_run-after.ensures.run c.if-after-fraction.true c.in-None.ensures.matches

pub returns-then-digits-text-clause-none : goal.returns-then-digits-text-clause-none
returns-then-digits-text-clause-none c =
    let none : length c.args.text.now ≤ length c.args.digits.now = omega arith in
    no_pointed _ c.args.digits.now c.args.fraction.now c.strip_run-after.result.now c.requires.run c.requires.point c.strip_run-after.ensures.run none c.if-after-fraction.false

pub returns-in-Some-strip_exponent-clause-found : goal.returns-in-Some-strip_exponent-clause-found
returns-in-Some-strip_exponent-clause-found c =
    let less : length c.args.digits.now < length c.args.text.now = omega arith in
    pointed_double _ c.args.digits.now c.args.fraction.now c.strip_run-after.result.now _ c.requires.run c.requires.point c.strip_run-after.ensures.run (inl less) c.in-Some-strip_exponent.ensures.matches c.in-Some-strip_exponent.ensures.shorter

pub returns-in-None-strip_exponent-clause-found : goal.returns-in-None-strip_exponent-clause-found
returns-in-None-strip_exponent-clause-found c =
    let less : length c.args.digits.now < length c.args.text.now = omega arith in
    pointed_integer _ c.args.digits.now c.args.fraction.now c.strip_run-after.result.now c.requires.run c.requires.point c.strip_run-after.ensures.run less c.if-after-fraction.false c.in-None-strip_exponent.ensures.matches
