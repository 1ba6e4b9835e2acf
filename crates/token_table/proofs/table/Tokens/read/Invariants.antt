use Rattle.std.proofs.Common.{length}
use Rattle.token_table.specs.Reading.{IsRead}
use Rattle.token_table.proofs.table.Tokens.read.Given as goal

abbrev pub invariant-loop-line : goal.invariant-loop-line
invariant-loop-line l = IsRead l.bytes l.rest l.tokens l.start l.number

abbrev pub decreases-loop-line : goal.decreases-loop-line
decreases-loop-line l = length l.rest
