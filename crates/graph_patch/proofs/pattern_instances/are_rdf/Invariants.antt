use Rattle.std.proofs.Common.{take}
use Rattle.graph_patch.specs.Patch.{IsInstance}
use Rattle.graph_patch.specs.Pattern.{value_of}
use Rattle.rdf_graph.specs.Triple.{IsRdf}
use Rattle.rdf_graph.specs.declared.triple.Triple.{Triple}
use Rattle.graph_patch.proofs.pattern_instances.are_rdf.Given as goal

abbrev pub invariant-loop-pattern : goal.invariant-loop-pattern
invariant-loop-pattern l = (x : Triple) → IsInstance (value_of l.pairs) (take l.pattern-index l.patterns) x → IsRdf x
