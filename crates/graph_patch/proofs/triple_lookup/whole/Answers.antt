use Rattle.std.proofs.Common.{◌≡◌, ◌∷◌, [], Some, ap, subst, sym, ◌∙◌}
use Rattle.std.specs.Prelude.{slice_get}
use Rattle.graph_patch.specs.Lookup.{AreCandidates}
use Rattle.rdf_graph.specs.TripleRef.{triple_of}
use Rattle.graph_patch.proofs.BindingSteps.{same_some}
use Rattle.graph_patch.proofs.Candidates.{no_candidate, one_candidate}
use Rattle.rdf_graph.proofs.Graphs.{at_place}
use Rattle.graph_patch.proofs.triple_lookup.whole.Goals as goal

pub returns-in-Ok : goal.returns-in-Ok
returns-in-Ok c =
    let t = triple_of c.args.triple.now in
    let read : c.in_order_at.result.now ≡ t = same_some (slice_get c.args.triples.now c.in-Ok.i) c.in_order_at.result.now t c.in_order_at.ensures c.in-Ok.ensures.found in
    subst (AreCandidates (Some t.s) (Some t.p) (Some t.o) c.args.triples.now) (sym (c.from_ref.ensures.value ∙ ap (λ x. x ∷ []) read))
    (one_candidate t c.args.triples.now (at_place c.args.triples.now c.in-Ok.i t c.in-Ok.ensures.found))

pub returns-in-Err : goal.returns-in-Err
returns-in-Err c = no_candidate (triple_of c.args.triple.now) c.args.triples.now c.in-Err.ensures.absent
