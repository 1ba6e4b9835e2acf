-- The tests of readers decide what the values of the types are.
use Rattle.std.proofs.Common.{◌≡◌, ◌⊎◌, ℕ, Bool, true, false, cond, eqb, not, ◌&&◌, List, [], ◌∷◌, ◌++◌, Option, Some, None, Result, Ok, Err, refl, sym, ap, ◌∙◌, inl, inr}
use Rattle.std.specs.Bool.{Decides}
use Rattle.std.specs.List.{list_all, AllByRecursion}
use Rattle.std.specs.List.Sorted.{IsStrictlySortedBy}
use Rattle.std.specs.Cmp.{IsTotalOrder}
use Rattle.std.specs.Str.{IsUtf8, is_utf8}
use Rattle.std.specs.declared.cmp.Ordering.{Ordering}
use Rattle.std.specs.declared.cmp.Ordering.TheVariants.{Less, Equal, Greater}
use Rattle.std.proofs.lemmas.Bool.{eqb-true}
use Rattle.std.proofs.lemmas.Cmp.{on_total, nat_list_cmp_total}
use Rattle.std.proofs.lemmas.List.Elements.{All-from_recursion, recursion_from_All}
use Rattle.std.proofs.lemmas.Slice.Eq.{bytes_eq-Decides}
use Rattle.std.proofs.lemmas.Str.{IsUtf8-from_is_utf8, is_utf8-from_IsUtf8}
use Rattle.iri_ref.specs.Characters.{colon, is_letter, is_scheme_character, is_allowed, is_scheme}
use Rattle.iri_ref.specs.Components.{HasScheme, IsAbsolute}
use Rattle.pod_path.specs.Norm.{IsPath, path_text_of}
use Rattle.pod_path.specs.declared.fault.PathFault.{PathFault}
use Rattle.rdf_graph.specs.Graph.{IsGraph}
use Rattle.rdf_graph.specs.Triple.{IsRdf, triple_cmp}
use Rattle.rdf_graph.specs.TripleLaws.{triple_cmp_total}
use Rattle.rdf_graph.specs.Term.{IsIri, IsLiteral}
use Rattle.rdf_graph.specs.declared.term.Term.{Term}
use Rattle.rdf_graph.specs.declared.term.Term.TheVariants.{Iri, Blank, Literal, Tagged}
use Rattle.rdf_graph.specs.declared.triple.Triple.{Triple}
use Rattle.pod_command.specs.Encodable.{path_cmp, AreInOrder}
use Rattle.stored_forms.specs.Readers.{◌>>=◌, checked}
use Rattle.stored_forms.specs.Reading.{is_rest_of_scheme, begins_with_scheme, is_absolute, is_same_path, is_path, is_less, is_below_next, is_rising, is_iri, is_literal, is_rdf, is_graph}
use Rattle.pod_command.specs.declared.row.Row.{Row}

pub and_true : (a b : Bool) → (a && b) ≡ true → (a ≡ true) × (b ≡ true)
and_true true b e = (refl, e)
and_true false b e = absurd cc

pub both_true : (a b : Bool) → a ≡ true → b ≡ true → (a && b) ≡ true
both_true true b p q = q
both_true false b p q = absurd cc

both_decide : {P Q : Type 0} (a b : Bool) → Decides a P → Decides b Q → Decides (a && b) (P × Q)
both_decide a b p q = (λ e. let s = and_true a b e in (p.0 s.0, q.0 s.1), λ h. both_true a b (p.1 h.0) (q.1 h.1))

pub utf8_decides : (text : List ℕ) → Decides (is_utf8 text) (IsUtf8 text)
utf8_decides text = (IsUtf8-from_is_utf8 text, is_utf8-from_IsUtf8 text)

-- ---- IRIs

-- what is left of a scheme, and what follows its colon
record SchemeRest (text : List ℕ) : Type 0 where
  pub scheme : List ℕ
  pub rest : List ℕ
  pub whole : text ≡ scheme ++ colon ∷ rest
  pub all : list_all is_scheme_character scheme ≡ true

picked : (b x : Bool) → cond b true x ≡ true → (b ≡ true) ⊎ ((b ≡ false) × (x ≡ true))
picked true x e = inl refl
picked false x e = inr (refl, e)

cond_true : (b x : Bool) → x ≡ true → cond b true x ≡ true
cond_true true x e = refl
cond_true false x e = e

rest_of_scheme : (text : List ℕ) → is_rest_of_scheme text ≡ true → SchemeRest text
rest_of_scheme [] e = absurd cc
rest_of_scheme (c ∷ cs) e =
    elim (picked (eqb c colon) (is_scheme_character c && is_rest_of_scheme cs) e) [
      | inl here ↦ record { scheme = []; rest = cs; whole = ap (λ (d : ℕ). d ∷ cs) (eqb-true c colon here); all = refl }
      | inr w ↦ (
          let s = and_true (is_scheme_character c) (is_rest_of_scheme cs) w.1 in
          let more = rest_of_scheme cs s.1 in
          record { scheme = c ∷ more.scheme; rest = more.rest; whole = ap (λ (t : List ℕ). c ∷ t) more.whole; all = both_true (is_scheme_character c) (list_all is_scheme_character more.scheme) s.0 more.all }
          )
    ]

scheme_again : (scheme rest : List ℕ) → list_all is_scheme_character scheme ≡ true → is_rest_of_scheme (scheme ++ colon ∷ rest) ≡ true
scheme_again [] rest e = refl
scheme_again (c ∷ cs) rest e =
    let s = and_true (is_scheme_character c) (list_all is_scheme_character cs) e in
    cond_true (eqb c colon) (is_scheme_character c && is_rest_of_scheme (cs ++ colon ∷ rest)) (both_true (is_scheme_character c) _ s.0 (scheme_again cs rest s.1))

has_scheme : (text : List ℕ) → begins_with_scheme text ≡ true → HasScheme text
has_scheme [] e = absurd cc
has_scheme (c ∷ cs) e =
    let s = and_true (is_letter c) (is_rest_of_scheme cs) e in
    let more = rest_of_scheme cs s.1 in
    (c ∷ more.scheme, more.rest, record { is_one = both_true (is_letter c) (list_all is_scheme_character more.scheme) s.0 more.all; whole = ap (λ (t : List ℕ). c ∷ t) more.whole })

begins_again : (scheme rest : List ℕ) → is_scheme scheme ≡ true → begins_with_scheme (scheme ++ colon ∷ rest) ≡ true
begins_again [] rest e = absurd cc
begins_again (c ∷ cs) rest e =
    let s = and_true (is_letter c) (list_all is_scheme_character cs) e in
    both_true (is_letter c) (is_rest_of_scheme (cs ++ colon ∷ rest)) s.0 (scheme_again cs rest s.1)

pub absolute_decides : (text : List ℕ) → Decides (is_absolute text) (IsAbsolute text)
unfolding is_absolute
absolute_decides text = (
  λ e. let s = and_true (begins_with_scheme text) (list_all is_allowed text) e in record { scheme = has_scheme text s.0; allowed = s.1 },
  λ h. both_true (begins_with_scheme text) (list_all is_allowed text)
      (ap begins_with_scheme h.scheme.2.whole ∙ begins_again h.scheme.0 h.scheme.1 h.scheme.2.is_one) h.allowed,
)

-- ---- paths

same_path_is : (found : Result (List ℕ) PathFault) (text : List ℕ) → is_same_path found text ≡ true → found ≡ Ok text
same_path_is (Ok path) text e = ap (λ (t : List ℕ). Ok t) ((bytes_eq-Decides path text).0 e)
same_path_is (Err fault) text e = absurd cc

is_same_path_of : (text : List ℕ) → is_same_path (Ok text) text ≡ true
is_same_path_of text = (bytes_eq-Decides text text).1 refl

pub path_decides : (text : List ℕ) → Decides (is_path text) (IsPath text)
unfolding is_path
path_decides text = (
  same_path_is (path_text_of text) text,
  λ h. ap (λ (r : Result (List ℕ) PathFault). is_same_path r text) h ∙ is_same_path_of text,
)

-- ---- lists in strict order

less_is : (o : Ordering) → is_less o ≡ true → o ≡ Less
less_is Less e = refl
less_is Equal e = absurd cc
less_is Greater e = absurd cc

module _ {K : Type 0} {R : K → K → Ordering} (total : IsTotalOrder R) where
  all_above : (x y : K) (ys : List K) → R x y ≡ Less → AllByRecursion (λ z. R y z ≡ Less) ys → AllByRecursion (λ z. R x z ≡ Less) ys
  all_above x y [] below above = tt
  all_above x y (z ∷ zs) below above = (total.trans x y z below above.0, all_above x y zs below above.1)

  above_all : (x : K) (xs : List K) → is_below_next R x xs ≡ true → IsStrictlySortedBy R xs → AllByRecursion (λ z. R x z ≡ Less) xs
  unfolding IsStrictlySortedBy
  above_all x [] e sorted = tt
  above_all x (y ∷ ys) e sorted = let below = less_is (R x y) e in (below, all_above x y ys below sorted.0)

  rising_sorted : (xs : List K) → is_rising R xs ≡ true → IsStrictlySortedBy R xs
  unfolding IsStrictlySortedBy
  rising_sorted [] e = tt
  rising_sorted (x ∷ xs) e =
      let s = and_true (is_below_next R x xs) (is_rising R xs) e in
      let rest = rising_sorted xs s.1 in
      (above_all x xs s.0 rest, rest)

  below_next : (x : K) (xs : List K) → AllByRecursion (λ z. R x z ≡ Less) xs → is_below_next R x xs ≡ true
  below_next x [] above = refl
  below_next x (y ∷ ys) above = ap is_less above.0

  sorted_rising : (xs : List K) → IsStrictlySortedBy R xs → is_rising R xs ≡ true
  unfolding IsStrictlySortedBy
  sorted_rising [] sorted = refl
  sorted_rising (x ∷ xs) sorted = both_true (is_below_next R x xs) (is_rising R xs) (below_next x xs sorted.0) (sorted_rising xs sorted.1)

  pub rising_decides : (xs : List K) → Decides (is_rising R xs) (IsStrictlySortedBy R xs)
  rising_decides xs = (rising_sorted xs, sorted_rising xs)

pub rows_decide : (rows : List Row) → Decides (is_rising path_cmp rows) (AreInOrder rows)
rows_decide = rising_decides (on_total (λ r. r.path) nat_list_cmp_total)

-- ---- graphs

iri_decides : (term : Term) → Decides (is_iri term) (IsIri term)
iri_decides (Iri iri) = (λ e. tt, λ h. refl)
iri_decides (Blank label) = (λ e. absurd cc, λ h. absurd h)
iri_decides (Literal lexical datatype) = (λ e. absurd cc, λ h. absurd h)
iri_decides (Tagged lexical lang) = (λ e. absurd cc, λ h. absurd h)

no_literal_decides : (term : Term) → Decides (not (is_literal term)) (¬ IsLiteral term)
no_literal_decides (Iri iri) = (λ e h. h, λ h. refl)
no_literal_decides (Blank label) = (λ e h. h, λ h. refl)
no_literal_decides (Literal lexical datatype) = (λ e h. absurd cc, λ h. absurd (h tt))
no_literal_decides (Tagged lexical lang) = (λ e h. absurd cc, λ h. absurd (h tt))

pub rdf_decides : (t : Triple) → Decides (is_rdf t) (IsRdf t)
rdf_decides t = (
  λ e. let s = and_true (is_iri t.p) (not (is_literal t.s)) e in ((no_literal_decides t.s).0 s.1, (iri_decides t.p).0 s.0),
  λ h. both_true (is_iri t.p) (not (is_literal t.s)) ((iri_decides t.p).1 h.1) ((no_literal_decides t.s).1 h.0),
)

all_rdf : (ts : List Triple) → list_all is_rdf ts ≡ true → AllByRecursion IsRdf ts
all_rdf [] e = tt
all_rdf (t ∷ ts) e = let s = and_true (is_rdf t) (list_all is_rdf ts) e in ((rdf_decides t).0 s.0, all_rdf ts s.1)

rdf_all : (ts : List Triple) → AllByRecursion IsRdf ts → list_all is_rdf ts ≡ true
rdf_all [] h = refl
rdf_all (t ∷ ts) h = both_true (is_rdf t) (list_all is_rdf ts) ((rdf_decides t).1 h.0) (rdf_all ts h.1)

pub graph_decides : (ts : List Triple) → Decides (is_graph ts) (IsGraph ts)
unfolding is_graph
graph_decides ts = (
  λ e.
      let s = and_true (is_rising triple_cmp ts) (list_all is_rdf ts) e in
      record { ordered = (rising_decides triple_cmp_total ts).0 s.0; rdf = All-from_recursion IsRdf ts (all_rdf ts s.1) },
  λ h. both_true (is_rising triple_cmp ts) (list_all is_rdf ts) ((rising_decides triple_cmp_total ts).1 h.ordered) (rdf_all ts (recursion_from_All IsRdf ts h.rdf)),
)

-- ---- what passes a test, and what doesn't

pub passes : {A : Type 0} {P : Type 0} (b : Bool) (x y : A) → Decides b P → P → y ≡ x → cond b (Some x) None ≡ Some y
passes {A} b x y decides h e = ap (λ (t : Bool). cond t (Some x) None) (decides.1 h) ∙ ap (λ (z : A). Some z) (sym e)

none_of : {A : Type 0} {P : Type 0} (b : Bool) (x : A) → (b ≡ true → P) → (P → ⊥) → cond b (Some x) None ≡ None
none_of true x is h = absurd (h (is refl))
none_of false x is h = refl

pub fails : {A : Type 0} {P : Type 0} (b : Bool) (x : A) → Decides b P → (P → ⊥) → cond b (Some x) None ≡ None
fails b x decides h = none_of b x decides.0 h

pub checked_passes : {A : Type 0} {P : Type 0} (test : A → Bool) (read : List ℕ → Option (A × List ℕ)) (bytes : List ℕ) (x y : A) (rest : List ℕ)
    → read bytes ≡ Some (x, rest) → Decides (test x) P → P → y ≡ x → checked test read bytes ≡ Some (y, rest)
checked_passes {A} test read bytes x y rest e decides h is =
    ap (λ o. o >>= λ a. cond (test a.0) (Some a) None) e ∙ passes (test x) (x, rest) (y, rest) decides h (ap (λ (z : A). (z, rest)) is)

pub checked_fails : {A : Type 0} {P : Type 0} (test : A → Bool) (read : List ℕ → Option (A × List ℕ)) (bytes : List ℕ) (x : A) (rest : List ℕ)
    → read bytes ≡ Some (x, rest) → Decides (test x) P → (P → ⊥) → checked test read bytes ≡ None
checked_fails test read bytes x rest e decides h = ap (λ o. o >>= λ a. cond (test a.0) (Some a) None) e ∙ fails (test x) (x, rest) decides h
