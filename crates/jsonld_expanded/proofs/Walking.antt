-- The walk over the document of a graph: the triples of each subject, by their keys.
use Rattle.std.proofs.Common.{◌≡◌, ℕ, Bool, true, false, cond, List, [], ◌∷◌, ◌++◌, codes, map, inl, inr, refl, sym, ap, ◌∙◌, subst, append_assoc, append-nil}
use Rattle.std.proofs.lemmas.Bool.{and_parts, false≢true}
use Rattle.std.specs.List.{flat_map}
use Rattle.std.specs.Str.{bytes_eq}
use Rattle.iri_ref.specs.Components.{IsAbsolute}
use Rattle.iri_ref.proofs.Written.{absolute_itself}
use Rattle.rdf_graph.specs.Term.{IsIri, IsLiteral}
use Rattle.rdf_graph.specs.Triple.{IsRdf}
use Rattle.rdf_graph.specs.declared.term.Term.{Term}
use Rattle.rdf_graph.specs.declared.term.Term.TheVariants.{Iri, Blank, Literal, Tagged}
use Rattle.rdf_graph.specs.declared.triple.Triple.{Triple}
use Rattle.serde_json.specs.Data.{Data, string, array}
use Rattle.serde_json.specs.View.{items_of}
use Rattle.jsonld_expanded.specs.Expands.{State, Scope, Choose, saying, WalksEachType, WalksEachValue, WalksMember, WalksMembers, WalksType, WalksValue}
use Rattle.jsonld_expanded.specs.Nodes.{IsNamed}
use Rattle.jsonld_expanded.specs.Vocabulary.{rdf_type, xsd_string}
use Rattle.jsonld_expanded.specs.Document.{iri_of, is_named, is_type, key_of, name_of, named_value, object_of, properties, string_value, tagged_value, typed_value, value_of}
use Rattle.jsonld_expanded.specs.ReadsBack.{ReadsBack, TripleReadsBack}
use Rattle.jsonld_expanded.specs.Written.{HasAbsolute, HasAbsoluteIris}
use Rattle.jsonld_expanded.proofs.Keys.{no_label, not_equal, not_keyword}
use lib.Pointwise.{bytes_decides}

-- ---- names

pub named : (base : List ℕ) (x : Term) → is_named x ≡ true → HasAbsolute x → ReadsBack x → IsNamed base (name_of x) x
named base (Iri iri) n a r = record { no_label = λ l h. no_label iri l a h; allowed = a.allowed; stands_for = absolute_itself base iri a }
named base (Blank label) n a r = (refl, r)
named base (Literal lexical datatype) n a r = absurd (false≢true n)
named base (Tagged lexical lang) n a r = absurd (false≢true n)

pub subject_named : (x : Term) → (IsLiteral x → ⊥) → is_named x ≡ true
subject_named (Iri iri) h = refl
subject_named (Blank label) h = refl
subject_named (Literal lexical datatype) h = absurd (h tt)
subject_named (Tagged lexical lang) h = absurd (h tt)

iri_term : (x : Term) → IsIri x → x ≡ Iri (iri_of x)
iri_term (Iri iri) h = refl
iri_term (Blank label) h = absurd h
iri_term (Literal lexical datatype) h = absurd h
iri_term (Tagged lexical lang) h = absurd h

iri_absolute : (x : Term) → IsIri x → HasAbsolute x → IsAbsolute (iri_of x)
iri_absolute (Iri iri) h a = a
iri_absolute (Blank label) h a = absurd h
iri_absolute (Literal lexical datatype) h a = absurd h
iri_absolute (Tagged lexical lang) h a = absurd h

-- a triple of RDF that is read back
pub record IsGood (t : Triple) : Type 0 where
  pub rdf : IsRdf t
  pub absolute : HasAbsoluteIris t
  pub back : TripleReadsBack t

pub predicate : (t : Triple) → IsGood t → IsAbsolute (iri_of t.p)
predicate t g = iri_absolute t.p g.rdf.1 g.absolute.p

-- ---- states

abbrev pub after : State → List Triple → State
after a ts = record { triples = a.triples ++ ts; next = a.next }

pub after_none : (a : State) → after a [] ≡ a
after_none a = ap (λ (ts : List Triple). record { triples = ts; next = a.next }) (append-nil a.triples)

pub after_both : (a : State) (ts us : List Triple) → after (after a ts) us ≡ after a (ts ++ us)
after_both a ts us = ap (λ (vs : List Triple). record { triples = vs; next = a.next }) (append_assoc a.triples ts us)

-- what a triple says
pub said : (t : Triple) (p : List ℕ) (a : State) → t.p ≡ Iri p → saying t.s p t.o a ≡ after a (t ∷ [])
said t p a e = ap (λ (q : Term). record { triples = a.triples ++ record { s = t.s; p = q; o = t.o } ∷ []; next = a.next }) (sym e)

pub says : (s : Term) (t : Triple) (p : List ℕ) (a : State) → t.s ≡ s → t.p ≡ Iri p → saying s p t.o a ≡ after a (t ∷ [])
says s t p a e f = ap (λ (x : Term). saying x p t.o a) (sym e) ∙ said t p a f

-- ---- keys, objects and lists

pub object_as_type : (t : Triple) → is_type t ≡ true → object_of t ≡ string (name_of t.o)
object_as_type t e = ap (λ b. cond b (string (name_of t.o)) (value_of t.o)) e

pub object_as_value : (t : Triple) → is_type t ≡ false → object_of t ≡ value_of t.o
object_as_value t e = ap (λ b. cond b (string (name_of t.o)) (value_of t.o)) e

pub key_as_type : (t : Triple) → is_type t ≡ true → key_of t ≡ codes "@type"
key_as_type t e = ap (λ b. cond b (codes "@type") (iri_of t.p)) e

pub key_as_iri : (t : Triple) → is_type t ≡ false → key_of t ≡ iri_of t.p
key_as_iri t e = ap (λ b. cond b (codes "@type") (iri_of t.p)) e

abbrev pub Each : (Triple → Type 0) → List Triple → Type 0
Each P [] = Unit {0}
Each P (t ∷ ts) = P t × Each P ts

choose_first : (b : Bool) (A B : Type 0) → b ≡ true → A → Choose b A B
choose_first true A B e x = x
choose_first false A B e x = absurd (false≢true e)

choose_second : (b : Bool) (A B : Type 0) → b ≡ false → B → Choose b A B
choose_second true A B e x = absurd (false≢true (sym e))
choose_second false A B e x = x

abbrev pub EachRun : (List Triple → Type 0) → List (List Triple) → Type 0
EachRun P [] = Unit {0}
EachRun P (run ∷ rs) = P run × EachRun P rs

-- ---- values

module _ (scope : Scope) where
  module _ (s : Term) (p : List ℕ) where
    walks_name : (x : Term) (a : State) → IsNamed scope.base (name_of x) x → WalksValue scope s p (named_value (name_of x)) a (saying s p x a)
    walks_name x a h = (x, (a, (h, refl), (saying s p x a, refl, (saying s p x a, refl, refl))))

    walks_string : (lexical : List ℕ) (a : State) → WalksValue scope s p (string_value lexical) a (saying s p (Literal lexical xsd_string) a)
    walks_string lexical a = (Literal lexical xsd_string, inl (record { value = string lexical; count = refl; has_value = refl; literal = refl }), refl)

    walks_typed : (lexical datatype : List ℕ) (a : State) → IsAbsolute datatype → WalksValue scope s p (typed_value lexical datatype) a (saying s p (Literal lexical datatype) a)
    walks_typed lexical datatype a h =
        (Literal lexical datatype, inr (inl (record { lexical = lexical; datatype = datatype; count = refl; has_value = refl; has_type = refl; absolute = h; literal = refl })), refl)

    walks_tagged : (lexical lang : List ℕ) (a : State) → ReadsBack (Tagged lexical lang) → WalksValue scope s p (tagged_value lexical lang) a (saying s p (Tagged lexical lang) a)
    walks_tagged lexical lang a h =
        (Tagged lexical lang, inr (inr (record { lexical = lexical; lang = lang; count = refl; has_value = refl; no_type = refl; has_language = refl; is_tag = h.0; literal = ap (Tagged lexical) (sym h.1) })), refl)

    walks_literal : (lexical datatype : List ℕ) (a : State) (b : Bool) → bytes_eq datatype xsd_string ≡ b → IsAbsolute datatype
        → WalksValue scope s p (cond b (string_value lexical) (typed_value lexical datatype)) a (saying s p (Literal lexical datatype) a)
    walks_literal lexical datatype a true e h =
        subst (λ (d : List ℕ). WalksValue scope s p (string_value lexical) a (saying s p (Literal lexical d) a)) (sym ((bytes_decides datatype xsd_string).0 e)) (walks_string lexical a)
    walks_literal lexical datatype a false e h = walks_typed lexical datatype a h

    pub walks_value : (x : Term) (a : State) → HasAbsolute x → ReadsBack x → WalksValue scope s p (value_of x) a (saying s p x a)
    walks_value (Iri iri) a h r = walks_name (Iri iri) a (named scope.base (Iri iri) refl h r)
    walks_value (Blank label) a h r = walks_name (Blank label) a (named scope.base (Blank label) refl h r)
    walks_value (Literal lexical datatype) a h r = walks_literal lexical datatype a (bytes_eq datatype xsd_string) refl h
    walks_value (Tagged lexical lang) a h r = walks_tagged lexical lang a r

  -- ---- runs of one key

  -- the triple has this subject, and this key, which is no keyword
  pub record IsUnder (s : Term) (p : List ℕ) (t : Triple) : Type 0 where
    pub good : IsGood t
    pub subject : t.s ≡ s
    pub key : key_of t ≡ p

  type_under : (t : Triple) (b : Bool) → is_type t ≡ b → IsGood t → key_of t ≡ codes "@type" → is_type t ≡ true
  type_under t true e g k = e
  type_under t false e g k = absurd (not_keyword (iri_of t.p) (codes "type") (predicate t g) (sym (key_as_iri t e) ∙ k))

  value_under : (p : List ℕ) (t : Triple) (b : Bool) → is_type t ≡ b → IsAbsolute p → key_of t ≡ p → is_type t ≡ false
  value_under p t true e h k = absurd (not_keyword p (codes "type") h (sym k ∙ key_as_type t e))
  value_under p t false e h k = e

  walks_type : (s : Term) (t : Triple) (a : State) → IsUnder s (codes "@type") t → WalksType scope s (object_of t) a (after a (t ∷ []))
  walks_type s t a u =
      let kind = type_under t (is_type t) refl u.good u.key in
      let parts = and_parts (bytes_eq (iri_of t.p) rdf_type) (is_named t.o) kind in
      let is : t.p ≡ Iri rdf_type = iri_term t.p u.good.rdf.1 ∙ ap (λ (x : List ℕ). Iri x) ((bytes_decides (iri_of t.p) rdf_type).0 parts.0) in
      subst (λ (d : Data). WalksType scope s d a (after a (t ∷ []))) (sym (object_as_type t kind))
      (t.o, named scope.base t.o parts.1 u.good.absolute.o u.good.back.object, sym (says s t rdf_type a u.subject is))

  pub walks_types : (s : Term) (ts : List Triple) (a : State) → Each (IsUnder s (codes "@type")) ts → WalksEachType scope s (items_of (map object_of ts)) a (after a ts)
  walks_types s [] a h = after_none a
  walks_types s (t ∷ ts) a h = (
    after a (t ∷ []),
    walks_type s t a h.0,
    subst (λ (b : State). WalksEachType scope s (items_of (map object_of ts)) (after a (t ∷ [])) b) (after_both a (t ∷ []) ts) (walks_types s ts (after a (t ∷ [])) h.1),
  )

  walks_one : (s : Term) (p : List ℕ) (t : Triple) (a : State) → IsAbsolute p → IsUnder s p t → WalksValue scope s p (object_of t) a (after a (t ∷ []))
  walks_one s p t a absolute u =
      let kind = value_under p t (is_type t) refl absolute u.key in
      let is : t.p ≡ Iri p = iri_term t.p u.good.rdf.1 ∙ ap (λ (x : List ℕ). Iri x) (sym (key_as_iri t kind) ∙ u.key) in
      subst (λ (d : Data). WalksValue scope s p d a (after a (t ∷ []))) (sym (object_as_value t kind))
      (subst (λ (b : State). WalksValue scope s p (value_of t.o) a b) (says s t p a u.subject is) (walks_value s p t.o a u.good.absolute.o u.good.back.object))

  pub walks_values : (s : Term) (p : List ℕ) (ts : List Triple) (a : State) → IsAbsolute p → Each (IsUnder s p) ts → WalksEachValue scope s p (items_of (map object_of ts)) a (after a ts)
  walks_values s p [] a absolute h = after_none a
  walks_values s p (t ∷ ts) a absolute h = (
    after a (t ∷ []),
    walks_one s p t a absolute h.0,
    subst (λ (b : State). WalksEachValue scope s p (items_of (map object_of ts)) (after a (t ∷ [])) b) (after_both a (t ∷ []) ts) (walks_values s p ts (after a (t ∷ [])) absolute h.1),
  )

  -- ---- members

  -- the objects under a key
  walks_key : (s : Term) (t : Triple) (ts : List Triple) (a : State) (b : Bool) → is_type t ≡ b → Each (IsUnder s (key_of t)) (t ∷ ts)
      → WalksMember scope s (key_of t) (array (items_of (map object_of (t ∷ ts)))) a (after a (t ∷ ts))
  walks_key s t ts a true e h =
      subst (λ (k : List ℕ). WalksMember scope s k (array (items_of (map object_of (t ∷ ts)))) a (after a (t ∷ ts))) (sym (key_as_type t e))
      (walks_types s (t ∷ ts) a (subst (λ (k : List ℕ). Each (IsUnder s k) (t ∷ ts)) (key_as_type t e) h))
  walks_key s t ts a false e h =
      let p = iri_of t.p in
      let absolute = predicate t h.0.good in
      let under = subst (λ (k : List ℕ). Each (IsUnder s k) (t ∷ ts)) (key_as_iri t e) h in
      let items = items_of (map object_of (t ∷ ts)) in
      let Predicate : Type 0 = IsAbsolute p × WalksEachValue scope s p items a (after a (t ∷ ts)) in
      let Kind : Type 0 = WalksEachType scope s items a (after a (t ∷ ts)) in
      subst (λ (k : List ℕ). WalksMember scope s k (array items) a (after a (t ∷ ts))) (sym (key_as_iri t e))
      (choose_second (bytes_eq p (codes "@id")) (after a (t ∷ ts) ≡ a) (Choose (bytes_eq p (codes "@type")) Kind Predicate) (not_equal p (codes "id") absolute)
      (choose_second (bytes_eq p (codes "@type")) Kind Predicate (not_equal p (codes "type") absolute) (absolute, walks_values s p (t ∷ ts) a absolute under)))

  -- each run has one key and this subject
  abbrev pub AreUnder : Term → List Triple → Type 0
  AreUnder s [] = ⊥
  AreUnder s (t ∷ ts) = Each (IsUnder s (key_of t)) (t ∷ ts)

  pub walks_members : (s : Term) (rs : List (List Triple)) (a : State) → EachRun (AreUnder s) rs → WalksMembers scope s (properties rs) a (after a (flat_map (λ r. r) rs))
  walks_members s [] a h = after_none a
  walks_members s ([] ∷ rs) a h = absurd h.0
  walks_members s ((t ∷ ts) ∷ rs) a h = (
    after a (t ∷ ts),
    walks_key s t ts a (is_type t) refl h.0,
    subst (λ (b : State). WalksMembers scope s (properties rs) (after a (t ∷ ts)) b) (after_both a (t ∷ ts) (flat_map (λ r. r) rs)) (walks_members s rs (after a (t ∷ ts)) h.1),
  )
