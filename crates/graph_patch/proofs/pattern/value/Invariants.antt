use Rattle.std.proofs.Common.{◌≡◌, drop}
use Rattle.graph_patch.specs.Pattern.{value_of}
use Rattle.graph_patch.proofs.pattern.value.Given as goal

-- what is left decides
abbrev pub invariant-loop-other : goal.invariant-loop-other
invariant-loop-other l = value_of (drop l.other-index l.pairs) l.name ≡ value_of l.pairs l.name
