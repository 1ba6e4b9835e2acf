use Rattle.std.proofs.Common.{take}
use Rattle.std.specs.List.{Contains}
use Rattle.graph_patch.specs.Patch.{IsInstance}
use Rattle.graph_patch.specs.Pattern.{value_of}
use Rattle.rdf_graph.specs.declared.triple.Triple.{Triple}
use Rattle.graph_patch.proofs.pattern_instances.are_in.Given as goal

abbrev pub invariant-loop-pattern : goal.invariant-loop-pattern
invariant-loop-pattern l = (x : Triple) → IsInstance (value_of l.pairs) (take l.pattern-index l.patterns) x → Contains l.graph x
