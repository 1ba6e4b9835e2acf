use Rattle.std.proofs.Common.{ℕ, Ok, Err, length, rules}
use Rattle.program_words.specs.Readings.{number_after}
use Rattle.program_words.proofs.Numbers.{parsed, some_digit, kept, past, long}
use Rattle.program_words.proofs.numeric_word.limited.Goals as goal

pub returns-then-number-most : goal.returns-then-number-most
returns-then-number-most c = kept c.args.most (number_after 0 c.args.word.now) c.in-Ok.number (parsed {E = ℕ} c.args.word.now (Ok c.in-Ok.number) c.in-Ok.ensures.value.0 c.requires).1 c.if-number-most.true

pub returns-else-number-most : goal.returns-else-number-most
returns-else-number-most c = past c.args.most (number_after 0 c.args.word.now) c.in-Ok.number (parsed {E = ℕ} c.args.word.now (Ok c.in-Ok.number) c.in-Ok.ensures.value.0 c.requires).1 c.if-number-most.false

pub returns-in-Err : goal.returns-in-Err
returns-in-Err c = long c.args.most (number_after 0 c.args.word.now) (length c.args.word.now) (search rules) (parsed c.args.word.now (Err c.in-Err.field-0) c.in-Err.ensures.value.0 c.requires) (some_digit c.args.word.now c.requires)
