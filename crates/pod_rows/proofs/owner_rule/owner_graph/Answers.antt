use Rattle.std.proofs.Common.{sym, subst, ◌∙◌}
use Rattle.rdf_graph.specs.Graph.{IsGraph}
use Rattle.pod_rows.proofs.OwnerTriples.{owner_graph_is}
use Rattle.pod_rows.proofs.owner_rule.owner_graph.Goals as goal

pub in_order-requires : goal.in_order-requires
in_order-requires c =
    subst IsGraph (sym (c.from_vec.ensures.items ∙ c.in_ok-triples.ensures)) (owner_graph_is c.args.base.now c.args.owner.now)
