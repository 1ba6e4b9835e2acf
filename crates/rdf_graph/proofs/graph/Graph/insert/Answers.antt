use Rattle.std.proofs.Common.{subst, sym, ◌≡◌, ◌∙◌, Some}
use Rattle.std.specs.Prelude.{slice_get}
use Rattle.std.specs.List.{insert}
use Rattle.rdf_graph.specs.Graph.{IsGraph, SetWith}
use Rattle.rdf_graph.specs.InsertionPoint.{IsInsertionPoint}
use Rattle.rdf_graph.proofs.Graphs.{at_place, absent, graph_with, set_with_itself}
use Rattle.rdf_graph.proofs.Members.{contains_insert}
use Rattle.rdf_graph.proofs.graph.Graph.insert.Goals as goal

pub invariant_of-self-in-Err : goal.invariant_of-self-in-Err
invariant_of-self-in-Err c =
    subst IsGraph (sym c.in_ok-insert-in-Err.ensures.items)
    (graph_with c.self.inside.triples.items c.in-Err.at c.args.triple c.self.invariant c.requires
    (subst (λ g. IsInsertionPoint g c.in-Err.at c.args.triple) c.as_slice.ensures.value c.in-Err.ensures.found))

pub returns-in-Ok-clause-is_new : goal.returns-in-Ok-clause-is_new
returns-in-Ok-clause-is_new c =
    at_place c.args.self.now c.in-Ok.field-0 c.args.triple
    (subst (λ g. slice_get g c.in-Ok.field-0 ≡ Some c.args.triple) (c.as_slice.ensures.value ∙ c.self.view_is) c.in-Ok.ensures.found)

pub returns-in-Ok-clause-members : goal.returns-in-Ok-clause-members
returns-in-Ok-clause-members c =
    set_with_itself c.args.self.now c.args.triple
    (at_place c.args.self.now c.in-Ok.field-0 c.args.triple
    (subst (λ g. slice_get g c.in-Ok.field-0 ≡ Some c.args.triple) (c.as_slice.ensures.value ∙ c.self.view_is) c.in-Ok.ensures.found))

pub returns-in_ok-insert-in-Err-clause-is_new : goal.returns-in_ok-insert-in-Err-clause-is_new
returns-in_ok-insert-in-Err-clause-is_new c =
    absent c.args.self.now c.in-Err.at c.args.triple
    (subst (λ g. IsInsertionPoint g c.in-Err.at c.args.triple) (c.as_slice.ensures.value ∙ c.self.view_is) c.in-Err.ensures.found)

pub returns-in_ok-insert-in-Err-clause-members : goal.returns-in_ok-insert-in-Err-clause-members
returns-in_ok-insert-in-Err-clause-members c =
    subst (SetWith c.args.self.now c.args.triple) (sym c.in_ok-insert-in-Err.ensures.items)
    (subst (λ g. SetWith c.args.self.now c.args.triple (insert g c.in-Err.at c.args.triple)) (sym c.self.view_is)
    (contains_insert c.args.self.now c.in-Err.at c.args.triple))
