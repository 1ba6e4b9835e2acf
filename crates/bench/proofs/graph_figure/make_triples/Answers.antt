use Rattle.std.proofs.Common.{subst, sym}
use Rattle.std.specs.List.{All}
use Rattle.std.proofs.lemmas.List.Elements.{All-push}
use Rattle.rdf_graph.specs.Triple.{IsRdf}
use Rattle.bench.proofs.graph_figure.make_triples.Goals as goal

pub loop-step-preserved : goal.loop-step-preserved
loop-step-preserved c =
    subst (All IsRdf) (sym c.in_ok-push.ensures.items)
    (All-push IsRdf c.loop-step.triples.items c.in_ok-triple.triple c.loop-step.invariant c.in_ok-triple.ensures)
