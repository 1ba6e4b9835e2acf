use Rattle.std.proofs.Common.{◌≡◌, ◌++◌, take}
use Rattle.std.specs.List.{flat_map}
use Rattle.rdf_graph.specs.Triple.{line}
use Rattle.turtle_text.proofs.graph_text.append_lines.Given as goal

abbrev pub invariant-loop-triple : goal.invariant-loop-triple
invariant-loop-triple l = l.into.items ≡ l.initial.into.items ++ flat_map line (take l.triple-index l.triples)
