use Rattle.rdf_graph.proofs.LineOrders.{decides_equal}
use Rattle.rdf_graph.proofs.line_order.cmp_equal.Goals as goal

pub returns-then-eq : goal.returns-then-eq
returns-then-eq c = decides_equal c.args.a.now c.args.b.now (cc)
