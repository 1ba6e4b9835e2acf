use Rattle.rdf_graph.proofs.Graphs.{graph_of_none}
use Rattle.rdf_graph.proofs.graph.Graph.new.Goals as goal

pub invariant_of-result : goal.invariant_of-result
invariant_of-result c = rw c.new.ensures.items graph_of_none
