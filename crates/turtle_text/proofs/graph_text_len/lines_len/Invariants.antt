use Rattle.std.proofs.Common.{◌≡◌, length, take}
use Rattle.std.specs.List.{flat_map}
use Rattle.rdf_graph.specs.Size.{saturated}
use Rattle.rdf_graph.specs.Triple.{line}
use Rattle.turtle_text.proofs.graph_text_len.lines_len.Given as goal

abbrev pub invariant-loop-triple : goal.invariant-loop-triple
invariant-loop-triple l = l.len ≡ saturated (length (flat_map line (take l.triple-index l.triples)))
