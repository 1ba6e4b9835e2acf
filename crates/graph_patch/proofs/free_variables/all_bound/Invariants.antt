use Rattle.std.proofs.Common.{take}
use Rattle.graph_patch.specs.Patch.{AllBound}
use Rattle.graph_patch.proofs.free_variables.all_bound.Given as goal

abbrev pub invariant-loop-pattern : goal.invariant-loop-pattern
invariant-loop-pattern l = AllBound (take l.pattern-index l.patterns) l.conditions
