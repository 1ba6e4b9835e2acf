use Rattle.std.proofs.Common.{subst, sym, ◌≡◌, ◌∙◌, ◌↔◌, Some, List, Result, Ok, Err, ℕ, refl}
use Rattle.std.proofs.lemmas.Bool.{false≢true}
use Rattle.std.specs.Prelude.{slice_get, MatchResult, IsTrue, is_ok}
use Rattle.std.specs.List.{Contains}
use Rattle.std.proofs.lemmas.List.Elements.{All-contains}
use Rattle.rdf_graph.specs.Graph.{IsGraph}
use Rattle.rdf_graph.specs.Triple.{IsRdf}
use Rattle.rdf_graph.specs.InsertionPoint.{IsInsertionPoint}
use Rattle.rdf_graph.specs.declared.triple.Triple.{Triple}
use Rattle.rdf_graph.proofs.Graphs.{at_place, absent}
use Rattle.rdf_graph.proofs.graph.Graph.contains.Goals as goal

decided : (g : List Triple) (t : Triple) (r : Result ℕ ℕ) → MatchResult r (λ i. slice_get g i ≡ Some t) (λ i. IsInsertionPoint g i t) → IsTrue (is_ok r) ↔ Contains g t
decided g t (Ok i) h = (λ _. at_place g i t h, λ _. refl)
decided g t (Err i) h = (λ f. absurd (false≢true f), λ m. absurd (absent g i t h m))

rdf_of : (g : List Triple) (t : Triple) (r : Result ℕ ℕ) → IsGraph g → MatchResult r (λ i. slice_get g i ≡ Some t) (λ i. IsInsertionPoint g i t) → IsTrue (is_ok r) → IsRdf t
rdf_of g t (Ok i) graph h e = All-contains IsRdf g t graph.rdf (at_place g i t h)
rdf_of g t (Err i) graph h e = absurd (false≢true e)

pub returns-clause-found : goal.returns-clause-found
returns-clause-found c =
    subst (λ b. IsTrue b ↔ Contains c.args.self.now c.args.triple.now) (sym c.is_ok.ensures.value)
    (decided c.args.self.now c.args.triple.now c.position.result
    (subst (λ g. MatchResult c.position.result (λ i. slice_get g i ≡ Some c.args.triple.now) (λ i. IsInsertionPoint g i c.args.triple.now)) (c.as_slice.ensures.value ∙ c.self.view_is) c.position.ensures.found))

pub returns-clause-rdf : goal.returns-clause-rdf
returns-clause-rdf c =
    subst (λ b. IsTrue b → IsRdf c.args.triple.now) (sym c.is_ok.ensures.value)
    (rdf_of c.self.inside.triples.items c.args.triple.now c.position.result c.self.invariant
    (subst (λ g. MatchResult c.position.result (λ i. slice_get g i ≡ Some c.args.triple.now) (λ i. IsInsertionPoint g i c.args.triple.now)) c.as_slice.ensures.value c.position.ensures.found))
