-- Pairs of names and terms, and how they grow.
use Rattle.std.proofs.Common.{ℕ, ◌≡◌, ◌≢◌, ◌⊎◌, List, [], ◌∷◌, ◌++◌, Bool, true, false, cond, Option, None, Some, refl, sym, ap, ◌∙◌, subst, inl, inr, ⊎_elim, eqb}
use Rattle.std.specs.Prelude.{IsSome, is_some}
use Rattle.std.proofs.lemmas.Bool.{false≢true, true≢false}
use lib.Pointwise.{pointwise, bytes_decides}
use Rattle.graph_patch.specs.Pattern.{Binding, Extends, HasVariable, HoldsIn, Instantiates, HasDistinctNames, slot_term, value_of}
use Rattle.graph_patch.specs.Search.{and_then, bind_name, bind_pattern, bind_slot, if_same}
use Rattle.rdf_graph.specs.Term.{term_eq}
use Rattle.rdf_graph.specs.TermLaws.{term_eq_decides}
use Rattle.graph_patch.specs.declared.pattern.Pattern.{Pattern}
use Rattle.graph_patch.specs.declared.pattern.Slot.{Slot}
use Rattle.graph_patch.specs.declared.pattern.Slot.TheVariants.{Fixed, Var}
use Rattle.rdf_graph.specs.declared.term.Term.{Term}
use Rattle.rdf_graph.specs.declared.triple.Triple.{Triple}
use Rattle.rdf_graph.proofs.Exact.{same_parts}

abbrev pub Pairs : Type 0
Pairs = List (List ℕ × Term)

pub some_is : {X : Type 0} (o : Option X) → IsSome o → (x : X) × (o ≡ Some x)
some_is None h = absurd (false≢true h)
some_is (Some x) h = (x, refl)

pub is_some_from : {X : Type 0} (o : Option X) (x : X) → o ≡ Some x → IsSome o
is_some_from o x e = ap is_some e

pub none_is : {X : Type 0} (o : Option X) → (IsSome o → ⊥) → o ≡ None
none_is None h = refl
none_is (Some x) h = absurd (h refl)

pub some_not_none : {X : Type 0} (o : Option X) (x : X) → o ≡ Some x → o ≡ None → ⊥
some_not_none o x e n = false≢true (sym (ap is_some n) ∙ ap is_some e)

pub same_some : {X : Type 0} (o : Option X) (x y : X) → o ≡ Some x → o ≡ Some y → x ≡ y
same_some o x y e f = let both : Some x ≡ Some y = sym e ∙ f in cc

-- ---- look-ups

value_of-test : (pair : List ℕ × Term) (pairs : Pairs) (name : List ℕ) (b : Bool) → pointwise eqb pair.0 name ≡ b → value_of (pair ∷ pairs) name ≡ cond b (Some pair.1) (value_of pairs name)
value_of-test pair pairs name b e = ap (λ c. cond c (Some pair.1) (value_of pairs name)) e

pub value_of-first : (name : List ℕ) (term : Term) (pairs : Pairs) → value_of ((name, term) ∷ pairs) name ≡ Some term
value_of-first name term pairs = value_of-test (name, term) pairs name true ((bytes_decides name name).1 refl)

-- the first pair has the name, or the others decide
pub value_of-cases : (pair : List ℕ × Term) (pairs : Pairs) (name : List ℕ) → ((pair.0 ≡ name) × (value_of (pair ∷ pairs) name ≡ Some pair.1)) ⊎ ((pair.0 ≢ name) × (value_of (pair ∷ pairs) name ≡ value_of pairs name))
value_of-cases pair pairs name = by_test (pointwise eqb pair.0 name) refl
  where
    by_test : (b : Bool) → pointwise eqb pair.0 name ≡ b → ((pair.0 ≡ name) × (value_of (pair ∷ pairs) name ≡ Some pair.1)) ⊎ ((pair.0 ≢ name) × (value_of (pair ∷ pairs) name ≡ value_of pairs name))
    by_test true e = inl ((bytes_decides pair.0 name).0 e, value_of-test pair pairs name true e)
    by_test false e = inr ((λ same. true≢false (sym ((bytes_decides pair.0 name).1 same) ∙ e)), value_of-test pair pairs name false e)

pub value_of-left : (ps qs : Pairs) (name : List ℕ) (term : Term) → value_of ps name ≡ Some term → value_of (ps ++ qs) name ≡ Some term
value_of-left [] qs name term e = absurd (some_not_none None term e refl)
value_of-left (p ∷ ps) qs name term e =
    ⊎_elim
    (λ first. ⊎_elim
    (λ first'. first'.1 ∙ sym first.1 ∙ e)
    (λ other. absurd (other.0 first.0))
    (value_of-cases p (ps ++ qs) name))
    (λ rest. ⊎_elim
    (λ first. absurd (rest.0 first.0))
    (λ other. other.1 ∙ value_of-left ps qs name term (sym rest.1 ∙ e))
    (value_of-cases p (ps ++ qs) name))
    (value_of-cases p ps name)

pub value_of-right : (ps qs : Pairs) (name : List ℕ) → value_of ps name ≡ None → value_of (ps ++ qs) name ≡ value_of qs name
value_of-right [] qs name e = refl
value_of-right (p ∷ ps) qs name e =
    ⊎_elim
    (λ first. absurd (some_not_none _ p.1 first.1 e))
    (λ rest. ⊎_elim
    (λ first. absurd (rest.0 first.0))
    (λ other. other.1 ∙ value_of-right ps qs name (sym rest.1 ∙ e))
    (value_of-cases p (ps ++ qs) name))
    (value_of-cases p ps name)

-- a look-up among two lists is one in the first, or else one in the second
pub value_of-append_cases : (ps qs : Pairs) (name : List ℕ) → ((term : Term) × (value_of ps name ≡ Some term) × (value_of (ps ++ qs) name ≡ Some term)) ⊎ ((value_of ps name ≡ None) × (value_of (ps ++ qs) name ≡ value_of qs name))
value_of-append_cases ps qs name = by_look_up (value_of ps name) refl
  where
    by_look_up : (o : Option Term) → value_of ps name ≡ o → ((term : Term) × (value_of ps name ≡ Some term) × (value_of (ps ++ qs) name ≡ Some term)) ⊎ ((value_of ps name ≡ None) × (value_of (ps ++ qs) name ≡ value_of qs name))
    by_look_up None e = inr (e, value_of-right ps qs name e)
    by_look_up (Some term) e = inl (term, e, value_of-left ps qs name term e)

-- names stay distinct where two lists have none in common
pub HasDistinctNames-append : (ps qs : Pairs) → HasDistinctNames ps → HasDistinctNames qs → ((name : List ℕ) → IsSome (value_of ps name) → value_of qs name ≡ None) → HasDistinctNames (ps ++ qs)
HasDistinctNames-append [] qs s t apart = t
HasDistinctNames-append (p ∷ ps) qs s t apart = (
  value_of-right ps qs p.0 s.0 ∙ apart p.0 (is_some_from _ p.1 (value_of-first p.0 p.1 ps)),
  HasDistinctNames-append ps qs s.1 t (λ name h.
      let found = some_is (value_of ps name) h in
      ⊎_elim
      (λ first. apart name (is_some_from _ p.1 first.1))
      (λ rest. apart name (is_some_from _ found.0 (rest.1 ∙ found.1)))
      (value_of-cases p ps name)),
)

-- ---- growing by a slot

pub record GrowsBySlot (old : Pairs) (slot : Slot) (term : Term) (new : Pairs) : Type 0 where
  pub holds : slot_term (value_of new) slot ≡ Some term
  pub keeps : Extends old (value_of new)
  pub names : (name : List ℕ) → IsSome (value_of new name) → IsSome (value_of old name) ⊎ (slot ≡ Var name)
  pub once : HasDistinctNames old → HasDistinctNames new
  pub both : (m : Binding) → Extends old m → slot_term m slot ≡ Some term → Extends new m

-- nothing is new where the slot has the term already
grows_not : (old : Pairs) (slot : Slot) (term : Term) → slot_term (value_of old) slot ≡ Some term → GrowsBySlot old slot term old
grows_not old slot term e =
    record { holds = e; keeps = λ name t h. h; names = λ name h. inl h; once = λ s. s; both = λ m h k. h }

same_pairs : (b : Bool) (old new : Pairs) → if_same b old ≡ Some new → (b ≡ true) × (old ≡ new)
same_pairs true old new e = (refl, cc)
same_pairs false old new e = absurd (some_not_none None new e refl)

grows_by_name : (old : Pairs) (name : List ℕ) (term : Term) → value_of old name ≡ None → GrowsBySlot old (Var name) term (old ++ (name, term) ∷ [])
grows_by_name old name term e =
    record {
      holds = value_of-right old ((name, term) ∷ []) name e ∙ value_of-first name term [];
      keeps = λ n t h. value_of-left old ((name, term) ∷ []) n t h;
      names = λ n h.
          let found = some_is (value_of (old ++ (name, term) ∷ []) n) h in
          ⊎_elim
          (λ before. inl (is_some_from _ before.0 before.1))
          (λ last. ⊎_elim
          (λ first. inr (ap (λ x. Var x) first.0))
          (λ other. absurd (some_not_none _ found.0 (sym (last.1 ∙ other.1) ∙ found.1) refl))
          (value_of-cases (name, term) [] n))
          (value_of-append_cases old ((name, term) ∷ []) n);
      once = λ s. HasDistinctNames-append old ((name, term) ∷ []) s (refl, tt)
          (λ n h. ⊎_elim
          (λ first. absurd (some_not_none _ _ (some_is (value_of old n) h).1 (subst (λ x. value_of old x ≡ None) first.0 e)))
          (λ other. other.1)
          (value_of-cases (name, term) [] n));
      both = λ m h k n t is.
          ⊎_elim
          (λ before. h n t (before.1 ∙ sym before.2 ∙ is))
          (λ last. ⊎_elim
          (λ first. subst (λ x. m x ≡ Some t) first.0 (k ∙ sym first.1 ∙ sym last.1 ∙ is))
          (λ other. absurd (some_not_none _ t (sym (last.1 ∙ other.1) ∙ is) refl))
          (value_of-cases (name, term) [] n))
          (value_of-append_cases old ((name, term) ∷ []) n);
    }

grows_name : (o : Option Term) (old : Pairs) (name : List ℕ) (term : Term) (new : Pairs) → value_of old name ≡ o → bind_name o old name term ≡ Some new → GrowsBySlot old (Var name) term new
grows_name None old name term new e h =
    let is : old ++ (name, term) ∷ [] ≡ new = cc in
    subst (GrowsBySlot old (Var name) term) is (grows_by_name old name term e)
grows_name (Some other) old name term new e h =
    let same = same_pairs (term_eq other term) old new h in
    subst (GrowsBySlot old (Var name) term) same.1 (grows_not old (Var name) term (e ∙ ap (λ x. Some x) ((term_eq_decides other term).0 same.0)))

pub grows_slot : (old : Pairs) (slot : Slot) (term : Term) (new : Pairs) → bind_slot old slot term ≡ Some new → GrowsBySlot old slot term new
grows_slot old (Fixed fixed) term new h =
    let same = same_pairs (term_eq fixed term) old new h in
    subst (GrowsBySlot old (Fixed fixed) term) same.1 (grows_not old (Fixed fixed) term (ap (λ x. Some x) ((term_eq_decides fixed term).0 same.0)))
grows_slot old (Var name) term new h = grows_name (value_of old name) old name term new refl h

not_same : (b : Bool) (old : Pairs) → if_same b old ≡ None → b ≡ false
not_same true old e = absurd (some_not_none _ old refl e)
not_same false old e = refl

refused_name : (o : Option Term) (old : Pairs) (name : List ℕ) (term : Term) → value_of old name ≡ o → bind_name o old name term ≡ None → (m : Binding) → Extends old m → m name ≡ Some term → ⊥
refused_name None old name term e h m k is = some_not_none _ _ refl h
refused_name (Some other) old name term e h m k is =
    let same : other ≡ term = same_some (m name) other term (k name other e) is in
    true≢false (sym ((term_eq_decides other term).1 same) ∙ not_same (term_eq other term) old h)

pub refused_slot : (old : Pairs) (slot : Slot) (term : Term) → bind_slot old slot term ≡ None → (m : Binding) → Extends old m → slot_term m slot ≡ Some term → ⊥
refused_slot old (Fixed fixed) term h m k is =
    let same : fixed ≡ term = same_some (Some fixed) fixed term refl is in
    true≢false (sym ((term_eq_decides fixed term).1 same) ∙ not_same (term_eq fixed term) old h)
refused_slot old (Var name) term h m k is = refused_name (value_of old name) old name term refl h m k is

-- ---- what an extension keeps

pub slot_kept : (m n : Binding) → ((name : List ℕ) (term : Term) → m name ≡ Some term → n name ≡ Some term) → (slot : Slot) (term : Term) → slot_term m slot ≡ Some term → slot_term n slot ≡ Some term
slot_kept m n k (Fixed fixed) term e = e
slot_kept m n k (Var name) term e = k name term e

pub instance_kept : (m n : Binding) → ((name : List ℕ) (term : Term) → m name ≡ Some term → n name ≡ Some term) → (pattern : Pattern) (t : Triple) → Instantiates m pattern t → Instantiates n pattern t
instance_kept m n k pattern t h =
    record { s = slot_kept m n k pattern.s t.s h.s; p = slot_kept m n k pattern.p t.p h.p; o = slot_kept m n k pattern.o t.o h.o }

pub holds_kept : (g : List Triple) (m n : Binding) → ((name : List ℕ) (term : Term) → m name ≡ Some term → n name ≡ Some term) → (pattern : Pattern) → HoldsIn g m pattern → HoldsIn g n pattern
holds_kept g m n k pattern h = (h.0, instance_kept m n k pattern h.0 h.1, h.2)

pub Extends-trans : (ps qs : Pairs) (m : Binding) → Extends ps (value_of qs) → Extends qs m → Extends ps m
Extends-trans ps qs m h k name term e = k name term (h name term e)

-- ---- growing by a pattern

pub record GrowsByPattern (old : Pairs) (pattern : Pattern) (t : Triple) (new : Pairs) : Type 0 where
  pub holds : Instantiates (value_of new) pattern t
  pub keeps : Extends old (value_of new)
  pub names : (name : List ℕ) → IsSome (value_of new name) → IsSome (value_of old name) ⊎ HasVariable pattern name
  pub once : HasDistinctNames old → HasDistinctNames new
  pub both : (m : Binding) → Extends old m → Instantiates m pattern t → Extends new m

and_then-some : (o : Option Pairs) (f : Pairs → Option Pairs) (new : Pairs) → and_then o f ≡ Some new → (q : Pairs) × (o ≡ Some q) × (f q ≡ Some new)
and_then-some None f new e = absurd (some_not_none None new e refl)
and_then-some (Some q) f new e = (q, refl, e)

and_then-none : (o : Option Pairs) (f : Pairs → Option Pairs) → and_then o f ≡ None → (o ≡ None) ⊎ ((q : Pairs) × (o ≡ Some q) × (f q ≡ None))
and_then-none None f e = inl refl
and_then-none (Some q) f e = inr (q, refl, e)

pub grows_pattern : (old : Pairs) (pattern : Pattern) (t : Triple) (new : Pairs) → bind_pattern old pattern t ≡ Some new → GrowsByPattern old pattern t new
grows_pattern old pattern t new h =
    let first = and_then-some (bind_slot old pattern.s t.s) _ new h in
    let second = and_then-some (bind_slot first.0 pattern.p t.p) _ new first.2 in
    let a : GrowsBySlot old pattern.s t.s first.0 = grows_slot old pattern.s t.s first.0 first.1 in
    let b : GrowsBySlot first.0 pattern.p t.p second.0 = grows_slot first.0 pattern.p t.p second.0 second.1 in
    let c : GrowsBySlot second.0 pattern.o t.o new = grows_slot second.0 pattern.o t.o new second.2 in
    let two : Extends first.0 (value_of new) = Extends-trans first.0 second.0 (value_of new) b.keeps c.keeps in
    record {
      holds = record {
        s = slot_kept (value_of first.0) (value_of new) two pattern.s t.s a.holds;
        p = slot_kept (value_of second.0) (value_of new) c.keeps pattern.p t.p b.holds;
        o = c.holds;
      };
      keeps = Extends-trans old first.0 (value_of new) a.keeps two;
      names = λ name n. ⊎_elim
          (λ in_second. ⊎_elim
          (λ in_first. ⊎_elim (λ in_old. inl in_old) (λ s. inr (inl s)) (a.names name in_first))
          (λ p. inr (inr (inl p)))
          (b.names name in_second))
          (λ o. inr (inr (inr o)))
          (c.names name n);
      once = λ s. c.once (b.once (a.once s));
      both = λ m k is. c.both m (b.both m (a.both m k is.s) is.p) is.o;
    }

pub refused_pattern : (old : Pairs) (pattern : Pattern) (t : Triple) → bind_pattern old pattern t ≡ None → (m : Binding) → Extends old m → Instantiates m pattern t → ⊥
refused_pattern old pattern t h m k is =
    ⊎_elim
    (λ none. refused_slot old pattern.s t.s none m k is.s)
    (λ first.
    let a : GrowsBySlot old pattern.s t.s first.0 = grows_slot old pattern.s t.s first.0 first.1 in
    ⊎_elim
    (λ none. refused_slot first.0 pattern.p t.p none m (a.both m k is.s) is.p)
    (λ second.
    let b : GrowsBySlot first.0 pattern.p t.p second.0 = grows_slot first.0 pattern.p t.p second.0 second.1 in
    refused_slot second.0 pattern.o t.o second.2 m (b.both m (a.both m k is.s) is.p) is.o)
    (and_then-none (bind_slot first.0 pattern.p t.p) _ first.2))
    (and_then-none (bind_slot old pattern.s t.s) _ h)

-- ---- two instances of a pattern

slots_apart : (m n : Binding) (slot : Slot) (a b : Term) → slot_term m slot ≡ Some a → slot_term n slot ≡ Some b → (a ≡ b) ⊎ ((name : List ℕ) × (m name ≢ n name))
slots_apart m n (Fixed fixed) a b e f = inl (same_some (Some fixed) a b e f)
slots_apart m n (Var name) a b e f = by_test (term_eq a b) refl
  where
    by_test : (r : Bool) → term_eq a b ≡ r → (a ≡ b) ⊎ ((name : List ℕ) × (m name ≢ n name))
    by_test true t = inl ((term_eq_decides a b).0 t)
    by_test false t =
        inr (name, λ same. true≢false (sym ((term_eq_decides a b).1 (same_some (n name) a b (sym same ∙ e) f)) ∙ t))

-- mappings that make a pattern two different triples differ at a name
pub instances_apart : (m n : Binding) (pattern : Pattern) (t u : Triple) → Instantiates m pattern t → Instantiates n pattern u → (t ≢ u) → (name : List ℕ) × (m name ≢ n name)
instances_apart m n pattern t u h k apart =
    ⊎_elim
    (λ (s : t.s ≡ u.s). ⊎_elim
    (λ (p : t.p ≡ u.p). ⊎_elim
    (λ (o : t.o ≡ u.o). absurd (apart (same_parts t.s t.p t.o u.s u.p u.o s p o)))
    (λ differ. differ)
    (slots_apart m n pattern.o t.o u.o h.o k.o))
    (λ differ. differ)
    (slots_apart m n pattern.p t.p u.p h.p k.p))
    (λ differ. differ)
    (slots_apart m n pattern.s t.s u.s h.s k.s)
