use Rattle.turtle_lex.proofs.NumberLemmas.{whole_double, whole_integer, no_whole}
use Rattle.std.proofs.Common.{◌<◌, length, arith}
use Rattle.turtle_lex.proofs.numbers.whole_number.Goals as goal

pub returns-then-digits-text-clause-none : goal.returns-then-digits-text-clause-none
returns-then-digits-text-clause-none c = no_whole _ c.args.digits.now c.requires.run c.requires.no_point c.if-digits-text.true

pub returns-in-Some-clause-found : goal.returns-in-Some-clause-found
returns-in-Some-clause-found c = let less : length c.args.digits.now < length c.args.text.now = omega arith in whole_double _ c.args.digits.now _ c.requires.run c.requires.no_point less c.in-Some.ensures.matches c.in-Some.ensures.shorter

pub returns-in-None-clause-found : goal.returns-in-None-clause-found
returns-in-None-clause-found c = let less : length c.args.digits.now < length c.args.text.now = omega arith in whole_integer _ c.args.digits.now c.requires.run c.requires.no_point less c.in-None.ensures.matches
