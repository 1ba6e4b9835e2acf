use Rattle.std.proofs.Common.{sym, ◌∙◌}
use Rattle.rdf_graph.proofs.LineOrders.{decides_apart-cut, decides_behind-cut}
use Rattle.rdf_graph.proofs.line_order.cmp_marked.Goals as goal

pub returns-in-Equal : goal.returns-in-Equal
returns-in-Equal c =
    decides_behind-cut c.args.mark c.min-both.result c.args.a.now c.args.b.now c.cmp_first.result c.min-both.ensures (sym c.in-Equal.is ∙ c.cmp.ensures) c.cmp_first.ensures

pub returns-in_default : goal.returns-in_default
returns-in_default c =
    decides_apart-cut c.args.mark c.min-both.result c.args.a.now c.args.b.now c.cmp.result c.min-both.ensures c.cmp.ensures c.in_default.not-Equal
