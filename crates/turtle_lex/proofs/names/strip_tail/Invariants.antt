use Rattle.std.proofs.Common.{length}
use Rattle.turtle_lex.proofs.NameLemmas.{Reach}
use Rattle.turtle_lex.proofs.names.strip_tail.Given as goal

abbrev pub invariant-loop-parts : goal.invariant-loop-parts
invariant-loop-parts l = Reach l.parts l.text l.end l.rest

abbrev pub decreases-loop-parts : goal.decreases-loop-parts
decreases-loop-parts l = length l.rest
