use Rattle.std.proofs.Common.{rules, ◌≡◌, ◌∙◌, ◌++◌, ◌∷◌, [], ap, ℕ, List}
use Rattle.rdf_graph.specs.Triple.{iri_triple}
use Rattle.pod_rows.specs.Vocabulary.{ldp_contains}
use Rattle.pod_rows.proofs.Shown.{child_step}
use Rattle.pod_rows.proofs.container_graph.with_children.Goals as goal

pub loop-child-preserved : goal.loop-child-preserved
unfolding ldp_contains
loop-child-preserved c =
    let pushed : c.push.new.self.items ≡ c.loop-child.all.items ++ c.in_ok-triple.triple ∷ [] = search rules in
    pushed
    ∙ child_step c.args.base.now c.args.uri.now c.args.children.now c.loop-child.child-index c.child-item.result c.args.triples.items c.loop-child.all.items c.in_ok-triple.triple c.loop-child-test.true c.child-item.is
    (c.in_ok-triple.ensures ∙ ap (λ (p : List ℕ). iri_triple c.args.uri.now p c.in_ok-object.object) c.in_ok-contains.ensures
    ∙ ap (iri_triple c.args.uri.now ldp_contains) c.in_ok-object.ensures) c.loop-child.invariant
