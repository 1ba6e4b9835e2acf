use Rattle.std.proofs.Common.{arith}
use Rattle.turtle_terms.proofs.EscapeBounds.{small, one_digit}
use Rattle.turtle_terms.proofs.escapes.step_number.Goals as goal

pub overflow_mul-number : goal.overflow_mul-number
overflow_mul-number c = let h = small c.args.more c.args.number c.requires.0 c.requires.1 in omega arith

pub overflow_add-number : goal.overflow_add-number
overflow_add-number c = let h = small c.args.more c.args.number c.requires.0 c.requires.1 in omega (arith, c.digit_value.ensures.small)

pub returns-clause-bounded : goal.returns-clause-bounded
returns-clause-bounded c =
    one_digit c.args.more c.args.number c.digit_value.result c.if-more-eq0.false c.requires.0 c.requires.1 c.digit_value.ensures.small
