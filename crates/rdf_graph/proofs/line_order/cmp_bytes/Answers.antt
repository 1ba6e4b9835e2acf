use Rattle.rdf_graph.proofs.LineOrders.{texts_same}
use Rattle.rdf_graph.proofs.line_order.cmp_bytes.Goals as goal

pub returns-then-eq : goal.returns-then-eq
returns-then-eq c = texts_same c.args.a.now c.args.b.now (cc)
