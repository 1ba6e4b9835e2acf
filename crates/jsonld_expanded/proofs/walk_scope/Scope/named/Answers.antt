use Rattle.std.proofs.Common.{◌≡◌, ℕ, Bool, true, false, List, refl, Err, sym, ap, ◌∙◌}
use Rattle.iri_ref.specs.Characters.{AllAllowed}
use Rattle.rdf_graph.specs.declared.term.Term.{Term}
use Rattle.rdf_graph.specs.declared.term.Term.TheVariants.{Iri, Blank, Literal, Tagged}
use Rattle.jsonld_expanded.specs.Nodes.{IsLabelled, IsNamed}
use Rattle.jsonld_expanded.proofs.walk_scope.Scope.named.Goals as goal

stable : (b : Bool) → ((b ≡ true → ⊥) → ⊥) → b ≡ true
stable true h = refl
stable false h = absurd (h (λ e. absurd cc))

-- a text with a forbidden character and without a label names nothing
no_name : (base text : List ℕ) → ((l : List ℕ) → IsLabelled text l → ⊥) → (AllAllowed text → ⊥) → (t : Term) → IsNamed base text t → ⊥
no_name base text none bad (Iri i) x = bad x.allowed
no_name base text none bad (Blank l) x = none l x
no_name base text none bad (Literal l d) x = x
no_name base text none bad (Tagged l d) x = x

pub returns-in-Ok-clause-named : goal.returns-in-Ok-clause-named
returns-in-Ok-clause-named c = record {
  no_label = c.in-None.ensures.none;
  allowed = stable _ (λ bad. absurd (let e = c.in-Ok.ensures.bad_reference.1 bad in cc));
  stands_for = c.in-Ok.ensures.iri;
}

pub returns-in-Err-clause-out : goal.returns-in-Err-clause-out
returns-in-Err-clause-out c = λ e.
    let out = c.refusal_of.ensures cc in
    no_name c.args.self.now.base.now c.args.text.now c.in-None.ensures.none (c.in-Err.ensures.bad_reference.0 (ap (λ f. Err f) out))
