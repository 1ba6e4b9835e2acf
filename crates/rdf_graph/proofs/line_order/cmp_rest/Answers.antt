use Rattle.std.proofs.Common.{◌≡◌, refl, ap}
use Rattle.std.specs.Ordering.{nat_cmp}
use Rattle.std.proofs.lemmas.Iterator.Consumers.{YieldsList-from_first}
use Rattle.std.proofs.lemmas.Iterator.Search.{cmp_from_yields_List}
use Rattle.rdf_graph.specs.Line.{line_rest}
use Rattle.rdf_graph.proofs.line_order.cmp_rest.Goals as goal

pub returns : goal.returns
returns c =
    cmp_from_yields_List (λ x y. y ≡ x) _ nat_cmp _ c.cmp.ensures.ran
    (YieldsList-from_first (λ x. x) line_rest (line_rest c.args.a) refl)
    (λ it e. YieldsList-from_first (λ x. x) line_rest (line_rest c.args.b) (ap line_rest e))
    (λ x y. refl)
