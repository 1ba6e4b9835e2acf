use Rattle.std.proofs.Common.{◌≡◌, take}
use Rattle.rdf_graph.specs.Size.{saturated, triples_size}
use Rattle.rdf_graph.proofs.size.sum_of_sizes.Given as goal

abbrev pub invariant-loop-triple : goal.invariant-loop-triple
invariant-loop-triple l = l.size ≡ saturated (triples_size (take l.triple-index l.triples))
