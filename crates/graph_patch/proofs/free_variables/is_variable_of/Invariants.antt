use Rattle.std.proofs.Common.{take}
use Rattle.graph_patch.specs.Pattern.{IsVariableOf}
use Rattle.graph_patch.proofs.free_variables.is_variable_of.Given as goal

abbrev pub invariant-loop-condition : goal.invariant-loop-condition
invariant-loop-condition l = IsVariableOf (take l.condition-index l.conditions) l.name → ⊥
