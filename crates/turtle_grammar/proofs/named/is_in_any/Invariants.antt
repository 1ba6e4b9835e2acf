use Rattle.std.proofs.Common.{All, length}
use Rattle.turtle_grammar.specs.Named.{IsNotIn}
use Rattle.turtle_grammar.proofs.named.is_in_any.Given as goal

abbrev pub invariant-loop-last : goal.invariant-loop-last
invariant-loop-last l = (All (IsNotIn l.index) l.left → All (IsNotIn l.index) l.goals) × (All (IsNotIn l.index) l.goals → All (IsNotIn l.index) l.left)

abbrev pub decreases-loop-last : goal.decreases-loop-last
decreases-loop-last l = length l.left
