use Rattle.std.proofs.Common.{ℕ, List, drop}
use Rattle.std.specs.BTreeSet.{BTreeSet}
use Rattle.graph_patch.specs.Pattern.{IsVariableOf}
use Rattle.n3_patch.specs.VariableNames.{AddsNames}
use Rattle.n3_patch.proofs.free_variables.insert_all.Given as goal

abbrev pub invariant-loop-pattern : goal.invariant-loop-pattern
invariant-loop-pattern l = (after : BTreeSet (List ℕ)) → AddsNames l.names (IsVariableOf (drop l.pattern-index l.slice)) after
    → AddsNames l.fn.names (IsVariableOf l.slice) after
