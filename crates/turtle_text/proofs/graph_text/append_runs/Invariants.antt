use Rattle.std.proofs.Common.{◌≡◌, ◌++◌, length}
use Rattle.std.specs.List.{flat_map}
use Rattle.rdf_graph.specs.Triple.{line}
use Rattle.turtle_text.proofs.graph_text.append_runs.Given as goal

abbrev pub invariant-loop-rest : goal.invariant-loop-rest
invariant-loop-rest l = l.into.items ++ flat_map line l.rest ≡ l.initial.into.items ++ flat_map line l.fn.triples

abbrev pub decreases-loop-rest : goal.decreases-loop-rest
decreases-loop-rest l = length l.rest
