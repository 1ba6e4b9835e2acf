use Rattle.std.proofs.Common.{subst}
use Rattle.rdf_graph.specs.Graph.{IsGraph, SameSet}
use Rattle.pod_rows.proofs.Sets.{graph_unique}
use Rattle.pod_rows.proofs.container_graph.graph_of.Goals as goal

pub returns : goal.returns
returns c =
    graph_unique c.of-graph.result c.args.triples.items
    (subst IsGraph c.as_slice-in_order.ensures.triples c.as_slice-in_order.ensures.graph)
    c.requires
    (subst (SameSet c.of-graph.result) c.from_vec.ensures.items c.of-graph.ensures.members)
