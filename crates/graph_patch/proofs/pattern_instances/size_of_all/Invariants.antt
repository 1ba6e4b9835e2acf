use Rattle.std.proofs.Common.{◌≡◌, take}
use Rattle.graph_patch.specs.Patch.{instances_size}
use Rattle.graph_patch.specs.Pattern.{value_of}
use Rattle.rdf_graph.specs.Size.{saturated}
use Rattle.graph_patch.proofs.pattern_instances.size_of_all.Given as goal

abbrev pub invariant-loop-pattern : goal.invariant-loop-pattern
invariant-loop-pattern l = l.size ≡ saturated (instances_size (value_of l.pairs) (take l.pattern-index l.patterns))
