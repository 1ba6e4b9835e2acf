use Rattle.std.proofs.Common.{◌≡◌, ℕ, ◌+◌, List, ◌++◌, [], ◌∷◌, refl, sym, ap, ◌∙◌, subst}
use Rattle.rdf_graph.specs.Size.{saturated, triple_size, triples_size}
use Rattle.rdf_graph.specs.Term.{IsIri, IsLiteral}
use Rattle.rdf_graph.specs.Triple.{IsRdf}
use Rattle.rdf_graph.specs.declared.term.Term.{Term}
use Rattle.rdf_graph.specs.declared.term.Term.TheVariants.{Iri}
use Rattle.rdf_graph.specs.declared.triple.Triple.{Triple}
use Rattle.jsonld_expanded.specs.declared.walk_state.Walk.{Walk}
use Rattle.jsonld_expanded.specs.Expands.{State, saying}
use Rattle.jsonld_expanded.specs.Walks.{Stands}
use Rattle.jsonld_expanded.proofs.Kept.{one_more, stands-kept, stands-over}
use Rattle.jsonld_expanded.proofs.walk_state.Walk.say.Goals as goal

-- the triple of these terms
of_parts : (s p o : Term) → Triple
of_parts s p o = record { s = s; p = p; o = o }

parts : (t : Triple) (s : Term) (p : List ℕ) (o : Term) → t.s ≡ s → t.p ≡ Iri p → t.o ≡ o → t ≡ record { s = s; p = Iri p; o = o }
unfolding of_parts
parts t s p o a b c = ap (λ x. of_parts x t.p t.o) a ∙ ap (λ x. of_parts s x t.o) b ∙ ap (λ x. of_parts s (Iri p) x) c

is_rdf : (t : Triple) (s : Term) (p : List ℕ) → (¬ IsLiteral s) → t.s ≡ s → t.p ≡ Iri p → IsRdf t
is_rdf t s p h a b = (subst (λ (x : Term). ¬ IsLiteral x) (sym a) h, subst IsIri (sym b) tt)

pub returns-then-self-gt-TRIPLES_LIMIT : goal.returns-then-self-gt-TRIPLES_LIMIT
returns-then-self-gt-TRIPLES_LIMIT c = λ a h.
    let t = c.in_ok-triple.triple in
    let made = c.in_ok-triple.ensures in
    let same = parts t c.args.s.now c.args.p.now c.args.o made.subject made.predicate made.object in
    let size : c.saturating_sum-self.result ≡ saturated (triples_size a.triples + triple_size t) = c.saturating_sum-self.ensures (triples_size a.triples) (triple_size t) h.size c.encoded_size.ensures in
    let new : Walk = record { triples = c.args.self.now.triples; size = c.saturating_sum-self.result; next = c.args.self.now.next; left = c.in_ok-left.left } in
    (saying c.args.s.now c.args.p.now c.args.o a, refl, subst (λ (u : Triple). Stands new (one_more a u)) same (stands-over c.args.self.now new a t h refl refl size c.if-self-gt-TRIPLES_LIMIT.true))

pub returns : goal.returns
returns c = λ a h.
    let t = c.in_ok-triple.triple in
    let made = c.in_ok-triple.ensures in
    let same = parts t c.args.s.now c.args.p.now c.args.o made.subject made.predicate made.object in
    let size : c.saturating_sum-self.result ≡ saturated (triples_size a.triples + triple_size t) = c.saturating_sum-self.ensures (triples_size a.triples) (triple_size t) h.size c.encoded_size.ensures in
    let new : Walk = record { triples = c.push.new.self; size = c.saturating_sum-self.result; next = c.args.self.now.next; left = c.in_ok-left.left } in
    let rdf = is_rdf t c.args.s.now c.args.p.now c.requires made.subject made.predicate in
    (saying c.args.s.now c.args.p.now c.args.o a, refl, subst (λ (u : Triple). Stands new (one_more a u)) same (stands-kept c.args.self.now new a t h rdf refl c.in_ok-push.ensures.items size c.if-self-gt-TRIPLES_LIMIT.false))
