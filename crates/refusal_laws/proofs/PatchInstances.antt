-- The instances of patterns under a mapping, and what can be decided of them.
use Rattle.std.proofs.Common.{ℕ, ◌≡◌, ◌⊎◌, Bool, true, false, List, [], ◌∷◌, Option, Some, None, refl, sym, ap, ◌∙◌, subst, inl, inr, ⊎_elim}
use Rattle.std.specs.List.{Contains}
use Rattle.std.proofs.lemmas.Bool.{true≢false}
use Rattle.pod_rows.specs.GraphSets.{has_triple}
use Rattle.pod_rows.proofs.Sets.{has_from, has_to}
use Rattle.graph_patch.specs.Patch.{AreInstances, HasPredicate, IsInstance}
use Rattle.graph_patch.specs.Pattern.{Binding, Instantiates, slot_term}
use Rattle.rdf_graph.specs.Term.{IsIri, IsLiteral, term_eq}
use Rattle.rdf_graph.specs.TermLaws.{term_eq_decides}
use Rattle.rdf_graph.specs.Triple.{IsRdf}
use Rattle.graph_patch.specs.declared.pattern.Pattern.{Pattern}
use Rattle.rdf_graph.specs.declared.term.Term.{Term}
use Rattle.rdf_graph.specs.declared.term.Term.TheVariants.{Iri, Blank, Literal, Tagged}
use Rattle.rdf_graph.specs.declared.triple.Triple.{Triple}
use Rattle.graph_patch.proofs.BindingSteps.{same_some, some_not_none}
use Rattle.rdf_graph.proofs.Members.{contains_cases, contains_here, contains_none, contains_there}

-- ---- decisions

abbrev pub Decided : Type 0 → Type 0
Decided P = P ⊎ (P → ⊥)

-- one of a list has it, or none
pub some_or_none : {X : Type 0} (P : X → Type 0) → ((x : X) → Decided (P x)) → (xs : List X) → Decided ((x : X) × Contains xs x × P x)
some_or_none P decide [] = inr (λ h. contains_none h.0 h.1)
some_or_none P decide (x ∷ xs) = ⊎_elim
    (λ p. inl (x, contains_here x xs, p))
    (λ not. ⊎_elim
    (λ h. inl (h.0, contains_there x xs h.0 h.1, h.2))
    (λ none. inr (λ h. ⊎_elim (λ same. not (subst P (sym same) h.2)) (λ later. none (h.0, later, h.2)) (contains_cases x xs h.0 h.1)))
    (some_or_none P decide xs))
    (decide x)

-- all of a list have it, or one lacks it
pub all_or_one : {X : Type 0} (P : X → Type 0) → ((x : X) → Decided (P x)) → (xs : List X) → ((x : X) → Contains xs x → P x) ⊎ ((x : X) × Contains xs x × (P x → ⊥))
all_or_one P decide [] = inl (λ x h. absurd (contains_none x h))
all_or_one P decide (x ∷ xs) = ⊎_elim
    (λ p. ⊎_elim
    (λ all. inl (λ y h. ⊎_elim (λ same. subst P same p) (λ later. all y later) (contains_cases x xs y h)))
    (λ lacks. inr (lacks.0, contains_there x xs lacks.0 lacks.1, lacks.2))
    (all_or_one P decide xs))
    (λ not. inr (x, contains_here x xs, not))
    (decide x)

pub decide_member : (g : List Triple) (t : Triple) → Decided (Contains g t)
decide_member g t = by_test (has_triple g t) refl
  where
    by_test : (b : Bool) → has_triple g t ≡ b → Decided (Contains g t)
    by_test true e = inl (has_to g t e)
    by_test false e = inr (λ h. true≢false (sym (has_from g t h) ∙ e))

decide_literal : (s : Term) → Decided (IsLiteral s → ⊥)
decide_literal (Iri iri) = inl (λ h. h)
decide_literal (Blank label) = inl (λ h. h)
decide_literal (Literal lexical datatype) = inr (λ not. not tt)
decide_literal (Tagged lexical lang) = inr (λ not. not tt)

decide_iri : (p : Term) → Decided (IsIri p)
decide_iri (Iri iri) = inl tt
decide_iri (Blank label) = inr (λ h. h)
decide_iri (Literal lexical datatype) = inr (λ h. h)
decide_iri (Tagged lexical lang) = inr (λ h. h)

pub decide_rdf : (t : Triple) → Decided (IsRdf t)
decide_rdf t = ⊎_elim
    (λ s. ⊎_elim (λ p. inl (s, p)) (λ not. inr (λ h. not h.1)) (decide_iri t.p))
    (λ not. inr (λ h. not h.0))
    (decide_literal t.s)

-- ---- predicates

decide_term : (o : Option Term) (term : Term) → Decided (o ≡ Some term)
decide_term None term = inr (λ e. some_not_none None term e refl)
decide_term (Some other) term = by_test (term_eq other term) refl
  where
    by_test : (b : Bool) → term_eq other term ≡ b → Decided (Some other ≡ Some term)
    by_test true e = inl (ap Some ((term_eq_decides other term).0 e))
    by_test false e = inr (λ same. true≢false (sym ((term_eq_decides other term).1 (same_some (Some other) other term refl same)) ∙ e))

pub decide_predicate : (m : Binding) (patterns : List Pattern) (iri : List ℕ) → Decided (HasPredicate m patterns iri)
decide_predicate m patterns iri = some_or_none (λ (pattern : Pattern). slot_term m pattern.p ≡ Some (Iri iri)) (λ pattern. decide_term (slot_term m pattern.p) (Iri iri)) patterns

-- ---- instances

abbrev made_of : Option Term → Option Term → Option Term → Option Triple
made_of (Some s) (Some p) (Some o) = Some (record { s = s; p = p; o = o })
made_of (Some s) (Some p) None = None
made_of (Some s) None o = None
made_of None p o = None

-- the triple that a mapping makes a pattern, if it makes it one
abbrev pub made : Binding → Pattern → Option Triple
made m pattern = made_of (slot_term m pattern.s) (slot_term m pattern.p) (slot_term m pattern.o)

terms_made : (s p o : Option Term) (t : Triple) → made_of s p o ≡ Some t → (s ≡ Some t.s) × (p ≡ Some t.p) × (o ≡ Some t.o)
terms_made (Some s) (Some p) (Some o) t e =
    let same : record { s = s; p = p; o = o } ≡ t = same_some (made_of (Some s) (Some p) (Some o)) _ t refl e in
    (ap (λ (x : Triple). Some x.s) same, ap (λ (x : Triple). Some x.p) same, ap (λ (x : Triple). Some x.o) same)
terms_made (Some s) (Some p) None t e = absurd (some_not_none None t e refl)
terms_made (Some s) None o t e = absurd (some_not_none None t e refl)
terms_made None p o t e = absurd (some_not_none None t e refl)

made_is : (m : Binding) (pattern : Pattern) (t : Triple) → made m pattern ≡ Some t → Instantiates m pattern t
made_is m pattern t e =
    let terms = terms_made (slot_term m pattern.s) (slot_term m pattern.p) (slot_term m pattern.o) t e in
    record { s = terms.0; p = terms.1; o = terms.2 }

is_made : (s p o : Option Term) (t : Triple) → s ≡ Some t.s → p ≡ Some t.p → o ≡ Some t.o → made_of s p o ≡ Some t
is_made s p o t a b c = λ i. made_of (a i) (b i) (c i)

abbrev with_made : Option Triple → List Triple → List Triple
with_made None triples = triples
with_made (Some t) triples = t ∷ triples

-- the instances of patterns, one after the other
abbrev pub instances : Binding → List Pattern → List Triple
instances m [] = []
instances m (pattern ∷ patterns) = with_made (made m pattern) (instances m patterns)

instance_there : (m : Binding) (pattern : Pattern) (patterns : List Pattern) (x : Triple) → IsInstance m patterns x → IsInstance m (pattern ∷ patterns) x
instance_there m pattern patterns x h = (h.0, contains_there pattern patterns h.0 h.1, h.2)

module _ (m : Binding) (pattern : Pattern) (patterns : List Pattern) (x : Triple) where
  to_instance : (o : Option Triple) → made m pattern ≡ o → (Contains (instances m patterns) x → IsInstance m patterns x) → Contains (with_made o (instances m patterns)) x → IsInstance m (pattern ∷ patterns) x
  to_instance None e rest h = instance_there m pattern patterns x (rest h)
  to_instance (Some t) e rest h = ⊎_elim
      (λ same. (pattern, contains_here pattern patterns, made_is m pattern x (e ∙ ap Some same)))
      (λ later. instance_there m pattern patterns x (rest later))
      (contains_cases t (instances m patterns) x h)

  instance_first : (o : Option Triple) → o ≡ Some x → Contains (with_made o (instances m patterns)) x
  instance_first None e = absurd (some_not_none None x e refl)
  instance_first (Some t) e = subst (Contains (t ∷ instances m patterns)) (same_some (Some t) t x refl e) (contains_here t (instances m patterns))

  instance_later : (o : Option Triple) → Contains (instances m patterns) x → Contains (with_made o (instances m patterns)) x
  instance_later None h = h
  instance_later (Some t) h = contains_there t (instances m patterns) x h

  from_instance : (IsInstance m patterns x → Contains (instances m patterns) x) → IsInstance m (pattern ∷ patterns) x → Contains (instances m (pattern ∷ patterns)) x
  from_instance rest h = ⊎_elim
      (λ (same : pattern ≡ h.0).
      let here : Instantiates m pattern x = subst (λ (p : Pattern). Instantiates m p x) (sym same) h.2 in
      instance_first (made m pattern) (is_made _ _ _ x here.s here.p here.o))
      (λ later. instance_later (made m pattern) (rest (h.0, later, h.2)))
      (contains_cases pattern patterns h.0 h.1)

pub are_instances : (m : Binding) (patterns : List Pattern) → AreInstances m patterns (instances m patterns)
are_instances m [] x = (λ h. absurd (contains_none x h), λ h. absurd (contains_none h.0 h.1))
are_instances m (pattern ∷ patterns) x =
    let rest = are_instances m patterns x in (
      to_instance m pattern patterns x (made m pattern) refl rest.0,
      from_instance m pattern patterns x rest.1,
    )
