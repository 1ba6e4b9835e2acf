use Rattle.std.proofs.Common.{sym, subst, ◌∙◌}
use Rattle.rdf_graph.specs.Graph.{IsGraph}
use Rattle.stored_forms.proofs.Deciders.{graph_decides}
use Rattle.stored_forms.proofs.graph_form.graph_of.Goals as goal

pub in_order-requires : goal.in_order-requires
in_order-requires c = subst IsGraph (c.as_slice.ensures.value ∙ sym c.from_vec.ensures.items) ((graph_decides c.as_slice.result.now).0 (sym c.is_graph.ensures ∙ c.if-not-is_graph.false))
