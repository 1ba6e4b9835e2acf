use Rattle.std.proofs.Common.{length}
use Rattle.turtle_reader.specs.Kept.{ShortensTo}
use Rattle.turtle_reader.proofs.kept_meanings.staying.Given as goal

abbrev pub invariant-loop-last : goal.invariant-loop-last
invariant-loop-last l = ShortensTo l.machine l.kept l.left

abbrev pub decreases-loop-last : goal.decreases-loop-last
decreases-loop-last l = length l.left
