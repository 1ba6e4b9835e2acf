use Rattle.std.proofs.Common.{take}
use Rattle.std.specs.List.{All, Contains}
use Rattle.rdf_graph.proofs.graph.Graph.contains_all.Given as goal

abbrev pub invariant-loop-triple : goal.invariant-loop-triple
invariant-loop-triple l = All (Contains l.self) (take l.triple-index l.triples)
