use Rattle.std.proofs.Common.{List, subst}
use Rattle.rdf_graph.specs.Graph.{SameSet}
use Rattle.rdf_graph.specs.declared.triple.Triple.{Triple}
use Rattle.jsonld_expanded.proofs.document_reading.graph_of.Goals as goal

pub returns-clause-graph : goal.returns-clause-graph
returns-clause-graph c = subst (λ (ts : List Triple). SameSet c.of.result ts) c.from_vec.ensures.items c.of.ensures.members
