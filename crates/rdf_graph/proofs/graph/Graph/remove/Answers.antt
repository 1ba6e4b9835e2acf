use Rattle.std.proofs.Common.{subst, sym, ◌≡◌, ◌∙◌, Some, refl}
use Rattle.std.proofs.lemmas.Bool.{false≢true}
use Rattle.std.specs.Prelude.{slice_get}
use Rattle.std.specs.List.{remove}
use Rattle.rdf_graph.specs.Graph.{IsGraph, SetWithout}
use Rattle.rdf_graph.specs.InsertionPoint.{IsInsertionPoint}
use Rattle.rdf_graph.proofs.Graphs.{at_place, absent, graph_without, set_without, set_without_other}
use Rattle.rdf_graph.proofs.graph.Graph.remove.Goals as goal

pub invariant_of-self : goal.invariant_of-self
invariant_of-self c =
    subst IsGraph (sym c.remove.ensures.items)
    (graph_without c.self.inside.triples.items c.in-Ok.at c.args.triple.now c.self.invariant
    (subst (λ g. slice_get g c.in-Ok.at ≡ Some c.args.triple.now) c.as_slice.ensures.value c.in-Ok.ensures.found))

pub returns-in-Ok-clause-was_member : goal.returns-in-Ok-clause-was_member
returns-in-Ok-clause-was_member c = (
  λ _. at_place c.args.self.now c.in-Ok.at c.args.triple.now
      (subst (λ g. slice_get g c.in-Ok.at ≡ Some c.args.triple.now) (c.as_slice.ensures.value ∙ c.self.view_is) c.in-Ok.ensures.found),
  λ _. refl,
)

pub returns-in-Ok-clause-members : goal.returns-in-Ok-clause-members
returns-in-Ok-clause-members c =
    subst (SetWithout c.args.self.now c.args.triple.now) (sym c.remove.ensures.items)
    (subst (λ g. SetWithout g c.args.triple.now (remove c.self.inside.triples.items c.in-Ok.at)) c.self.view_is
    (set_without c.self.inside.triples.items c.in-Ok.at c.args.triple.now c.self.invariant
    (subst (λ g. slice_get g c.in-Ok.at ≡ Some c.args.triple.now) c.as_slice.ensures.value c.in-Ok.ensures.found)))

pub returns-in-Err-clause-was_member : goal.returns-in-Err-clause-was_member
returns-in-Err-clause-was_member c = (
  λ t. absurd (false≢true t),
  λ h. absurd (absent c.args.self.now c.in-Err.field-0 c.args.triple.now
      (subst (λ g. IsInsertionPoint g c.in-Err.field-0 c.args.triple.now) (c.as_slice.ensures.value ∙ c.self.view_is) c.in-Err.ensures.found) h),
)

pub returns-in-Err-clause-members : goal.returns-in-Err-clause-members
returns-in-Err-clause-members c =
    set_without_other c.args.self.now c.args.triple.now
    (absent c.args.self.now c.in-Err.field-0 c.args.triple.now
    (subst (λ g. IsInsertionPoint g c.in-Err.field-0 c.args.triple.now) (c.as_slice.ensures.value ∙ c.self.view_is) c.in-Err.ensures.found))
