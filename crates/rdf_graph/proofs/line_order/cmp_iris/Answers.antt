use Rattle.rdf_graph.proofs.LineOrders.{orders_iris}
use Rattle.rdf_graph.proofs.line_order.cmp_iris.Goals as goal

pub returns-in-Iri-Iri : goal.returns-in-Iri-Iri
returns-in-Iri-Iri c =
    orders_iris c.args.a.now c.args.b.now c.as_bytes.result.now c.as_bytes-in-Iri-Iri.result.now c.cmp_marked.result (cc) (cc) c.cmp_marked.ensures
