use Rattle.std.specs.List.{All}
use Rattle.rdf_graph.specs.Triple.{IsRdf}
use Rattle.bench.proofs.graph_figure.make_triples.Given as goal

abbrev pub invariant-loop-step : goal.invariant-loop-step
invariant-loop-step l = All IsRdf l.triples.items
