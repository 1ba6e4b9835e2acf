-- The document of a graph stands for the graph, and its text is read as it.
use Rattle.std.proofs.Common.{◌≡◌, ◌≤◌, ℕ, Bool, true, false, cond, List, [], ◌∷◌, ◌++◌, codes, map, All, refl, sym, ap, ◌∙◌, subst, arith}
use Rattle.std.proofs.lemmas.Bool.{false≢true}
use Rattle.std.proofs.lemmas.Cmp.{nat_list_cmp_total}
use Rattle.std.proofs.lemmas.List.Elements.{All-cons, All-head, All-nil, All-tail}
use Rattle.std.proofs.lemmas.List.Sorted.{All-permutation, Contains-permutation, IsPermutation-append, IsPermutation-refl, IsPermutation-sym, ranks_by, sum_by-IsPermutation}
use Rattle.std.proofs.lemmas.List.Sums.{sum-map}
use Rattle.std.specs.Cmp.{IsStrictWeakOrder}
use Rattle.std.specs.List.{flat_map}
use Rattle.std.specs.List.Sorted.{IsPermutation}
use Rattle.std.specs.Ordering.{is_lt, ordering_reverse}
use Rattle.std.specs.Str.{bytes_eq}
use Rattle.std.specs.declared.cmp.Ordering.{Ordering}
use Rattle.std.specs.declared.cmp.Ordering.TheVariants.{Less, Equal, Greater}
use Rattle.std.proofs.lemmas.Map.Lookups.{exact_bytes}
use Rattle.json.specs.Lex.{tokens}
use Rattle.json.specs.Tree.{json_tokens}
use Rattle.rdf_graph.specs.Graph.{IsGraph, SameSet}
use Rattle.rdf_graph.specs.Size.{triple_size, triples_size}
use Rattle.rdf_graph.specs.TermLaws.{term_eq_decides}
use Rattle.rdf_graph.specs.Triple.{bytes_cmp, IsRdf}
use Rattle.rdf_graph.specs.declared.size.TheConstants.{TRIPLES_LIMIT}
use Rattle.rdf_graph.specs.declared.term.Term.{Term}
use Rattle.rdf_graph.specs.declared.term.Term.TheVariants.{Iri, Blank, Literal, Tagged}
use Rattle.rdf_graph.specs.declared.triple.Triple.{Triple}
use Rattle.serde_json.specs.Data.{Data, string, Items, items_depth, Members, members_depth, depth}
use Rattle.serde_json.specs.View.{items_of}
use Rattle.serde_json.specs.Written.{outline}
use Rattle.serde_json.proofs.Texts.{print-outline}
use Rattle.jsonld_expanded.specs.Expands.{ExpandsTo, Scope, State, WalksEachNodeObject, WalksMembers, WalksNodeObject, scope_of, start}
use Rattle.jsonld_expanded.specs.Outcomes.{IsDocumentOf}
use Rattle.jsonld_expanded.specs.Vocabulary.{xsd_string}
use Rattle.jsonld_expanded.specs.Document.{document, document_text, iri_of, is_type, key_below, key_of, name_of, node_object, object_of, properties, same_key, same_subject, string_value, typed_value, value_of, with_property}
use Rattle.jsonld_expanded.specs.ReadsBack.{GraphReadsBack}
use Rattle.jsonld_expanded.specs.Runs.{runs, with_run}
use Rattle.jsonld_expanded.specs.Sorted.{sorted}
use Rattle.jsonld_expanded.specs.Written.{HasAbsoluteIris, IsDocumentText, tokens_of}
use Rattle.jsonld_expanded.proofs.Keys.{at_below}
use Rattle.jsonld_expanded.proofs.Regular.{AreRegular, HasRegular, IsBelowFirst, IsRegular, KeysAscend, read_tokens}
use Rattle.jsonld_expanded.proofs.Runs.{AreAlike, First, FromFirst, first_run, joined, parted, run_elements, runs_alike}
use Rattle.jsonld_expanded.proofs.Sorting.{Ascends, sorted_ascends, sorted_moves}
use Rattle.jsonld_expanded.proofs.Walking.{AreUnder, Each, EachRun, IsGood, IsUnder, after, after_both, after_none, named, predicate, subject_named, walks_members}
use lib.Pointwise.{bytes_decides}

-- ---- the order of keys

pub key_order : IsStrictWeakOrder key_below
key_order = ranks_by nat_list_cmp_total key_of

same_keys : (t u : Triple) → same_key t u ≡ true → key_of t ≡ key_of u
same_keys t u e = (bytes_decides (key_of t) (key_of u)).0 e

-- of two keys that differ, the one that isn't above comes first
less : (o : Ordering) (k l : List ℕ) → bytes_cmp k l ≡ o → is_lt (bytes_cmp l k) ≡ false → bytes_eq k l ≡ false → bytes_cmp k l ≡ Less
less Less k l e n d = e
less Equal k l e n d = absurd (false≢true (sym d ∙ (bytes_decides k l).1 (exact_bytes k l e)))
less Greater k l e n d = absurd (false≢true (sym n ∙ ap is_lt (nat_list_cmp_total.antisymm l k ∙ ap ordering_reverse e)))

-- ---- keys ascend

-- the first key of the properties
begins_with : (t : Triple) (rs : List (List Triple)) → First t rs → (k : List ℕ) → bytes_cmp k (key_of t) ≡ Less → IsBelowFirst k (properties rs)
begins_with t rs f k e = subst (λ (xs : List (List Triple)). IsBelowFirst k (properties xs)) (sym f.is) e

same_first_key : (t u : Triple) (ys : List Triple) (rs : List (List Triple)) → key_of t ≡ key_of u → KeysAscend (properties ((u ∷ ys) ∷ rs)) → KeysAscend (properties ((t ∷ u ∷ ys) ∷ rs))
same_first_key t u ys rs e h = (subst (λ (k : List ℕ). IsBelowFirst k (properties rs)) (sym e) h.0, h.1)

by_keys : (b : Bool) (t u : Triple) (ys : List Triple) (rs : List (List Triple)) → same_key t u ≡ b → key_below u t ≡ false → KeysAscend (properties ((u ∷ ys) ∷ rs)) → KeysAscend (properties (with_run same_key t ((u ∷ ys) ∷ rs)))
by_keys true t u ys rs e n h = subst (λ (xs : List (List Triple)). KeysAscend (properties xs)) (sym (joined same_key t u ys rs e)) (same_first_key t u ys rs (same_keys t u e) h)
by_keys false t u ys rs e n h = subst (λ (xs : List (List Triple)). KeysAscend (properties xs)) (sym (parted same_key t u ys rs e)) (less (bytes_cmp (key_of t) (key_of u)) (key_of t) (key_of u) refl n e, h)

pub keys_ascend : (ts : List Triple) → Ascends key_below ts → KeysAscend (properties (runs same_key ts))
unfolding runs
keys_ascend [] a = tt
keys_ascend (t ∷ []) a = (tt, tt)
keys_ascend (t ∷ u ∷ us) a =
    let f = first_run same_key u us in
    subst (λ (rs : List (List Triple)). KeysAscend (properties (with_run same_key t rs))) (sym f.is)
    (by_keys (same_key t u) t u f.run f.more refl a.0.0 (subst (λ (rs : List (List Triple)). KeysAscend (properties rs)) f.is (keys_ascend (u ∷ us) a.1)))

-- ---- values are regular and flat

-- regular, and so deep at most
pub record IsFlat (n : ℕ) (d : Data) : Type 0 where
  pub regular : IsRegular d
  pub within : depth d ≤ n

literal_flat : (lexical datatype : List ℕ) (b : Bool) → IsFlat 1 (cond b (string_value lexical) (typed_value lexical datatype))
literal_flat lexical datatype true = record { regular = ((tt, tt), (tt, tt)); within = omega arith }
literal_flat lexical datatype false = record { regular = ((refl, (tt, tt)), (tt, (tt, tt))); within = omega arith }

value_flat : (x : Term) → IsFlat 1 (value_of x)
value_flat (Iri iri) = record { regular = ((tt, tt), (tt, tt)); within = omega arith }
value_flat (Blank label) = record { regular = ((tt, tt), (tt, tt)); within = omega arith }
value_flat (Literal lexical datatype) = literal_flat lexical datatype (bytes_eq datatype xsd_string)
value_flat (Tagged lexical lang) = record { regular = ((refl, (tt, tt)), (tt, (tt, tt))); within = omega arith }

object_flat : (t : Triple) → IsFlat 1 (object_of t)
object_flat t = by_test (is_type t)
  where
    by_test : (b : Bool) → IsFlat 1 (cond b (string (name_of t.o)) (value_of t.o))
    by_test true = record { regular = tt; within = omega arith }
    by_test false = value_flat t.o

pub record AreFlat (n : ℕ) (ds : Items) : Type 0 where
  pub regular : AreRegular ds
  pub within : items_depth ds ≤ n

objects_flat : (ts : List Triple) → AreFlat 1 (items_of (map object_of ts))
objects_flat [] = record { regular = tt; within = omega arith }
objects_flat (t ∷ ts) =
    let one = object_flat t in
    let more = objects_flat ts in
    record { regular = (one.regular, more.regular); within = omega (arith, one.within, more.within) }

pub record HasFlat (n : ℕ) (ms : Members) : Type 0 where
  pub regular : HasRegular ms
  pub within : members_depth ms ≤ n

property_flat : (run : List Triple) (ms : Members) → HasFlat 2 ms → HasFlat 2 (with_property run ms)
property_flat [] ms h = h
property_flat (t ∷ ts) ms h =
    let objects = objects_flat (t ∷ ts) in
    record { regular = (objects.regular, h.regular); within = omega (arith, objects.within, h.within) }

properties_flat : (rs : List (List Triple)) → HasFlat 2 (properties rs)
properties_flat [] = record { regular = tt; within = omega arith }
properties_flat (run ∷ rs) = property_flat run (properties rs) (properties_flat rs)

-- ---- node objects

module _ (base : List ℕ) where
  -- `@id` comes before all keys
  key_after_id : (t : Triple) (b : Bool) → is_type t ≡ b → IsGood t → bytes_cmp (codes "@id") (key_of t) ≡ Less
  key_after_id t true e g = ap (bytes_cmp (codes "@id")) (ap (λ b. cond b (codes "@type") (iri_of t.p)) e)
  key_after_id t false e g = ap (bytes_cmp (codes "@id")) (ap (λ b. cond b (codes "@type") (iri_of t.p)) e) ∙ at_below (codes "id") (iri_of t.p) (predicate t g)

  id_first : (ts : List Triple) → Each IsGood ts → IsBelowFirst (codes "@id") (properties (runs same_key ts))
  unfolding runs
  id_first [] h = tt
  id_first (t ∷ ts) h = begins_with t (runs same_key (t ∷ ts)) (first_run same_key t ts) (codes "@id") (key_after_id t (is_type t) refl h.0)

-- ---- lists of triples

-- a triple of the subject that is read back
record IsOf (base : List ℕ) (s : Term) (t : Triple) : Type 0 where
  pub good : IsGood t
  pub subject : t.s ≡ s

each_from_all : (P : Triple → Type 0) (ts : List Triple) → All P ts → Each P ts
each_from_all P [] h = tt
each_from_all P (t ∷ ts) h = (All-head P t ts h, each_from_all P ts (All-tail P t ts h))

all_from_each : (P : Triple → Type 0) (ts : List Triple) → Each P ts → All P ts
all_from_each P [] h = All-nil P
all_from_each P (t ∷ ts) h = All-cons P t ts h.0 (all_from_each P ts h.1)

each_sorted : (P : Triple → Type 0) (ts : List Triple) → Each P ts → Each P (sorted key_below ts)
each_sorted P ts h = each_from_all P (sorted key_below ts) (All-permutation P ts (sorted key_below ts) (sorted_moves key_below ts) (all_from_each P ts h))

each_before : (P : Triple → Type 0) (ts us : List Triple) → Each P (ts ++ us) → Each P ts
each_before P [] us h = tt
each_before P (t ∷ ts) us h = (h.0, each_before P ts us h.1)

each_after : (P : Triple → Type 0) (ts us : List Triple) → Each P (ts ++ us) → Each P us
each_after P [] us h = h
each_after P (t ∷ ts) us h = each_after P ts us h.1

each_run : (P : Triple → Type 0) (rs : List (List Triple)) → Each P (flat_map (λ r. r) rs) → EachRun (Each P) rs
each_run P [] h = tt
each_run P (r ∷ rs) h = (each_before P r (flat_map (λ r. r) rs) h, each_run P rs (each_after P r (flat_map (λ r. r) rs) h))

-- ---- runs of one key

abbrev HasKeyOf : Triple → Triple → Type 0
HasKeyOf t u = key_of u ≡ key_of t

abbrev HasSubjectOf : Triple → Triple → Type 0
HasSubjectOf t u = u.s ≡ t.s

keys_alike : (ts : List Triple) → AreAlike same_key HasKeyOf (λ t. refl) (λ t u v e h. h ∙ sym (same_keys t u e)) (runs same_key ts)
keys_alike ts = runs_alike same_key HasKeyOf (λ t. refl) (λ t u v e h. h ∙ sym (same_keys t u e)) ts

same_subjects : (t u : Triple) → same_subject t u ≡ true → t.s ≡ u.s
same_subjects t u e = (term_eq_decides t.s u.s).0 e

subjects_alike : (ts : List Triple) → AreAlike same_subject HasSubjectOf (λ t. refl) (λ t u v e h. h ∙ sym (same_subjects t u e)) (runs same_subject ts)
subjects_alike ts = runs_alike same_subject HasSubjectOf (λ t. refl) (λ t u v e h. h ∙ sym (same_subjects t u e)) ts

abbrev KeysAlike : List (List Triple) → Type 0
KeysAlike = AreAlike same_key HasKeyOf (λ t. refl) (λ t u v e h. h ∙ sym (same_keys t u e))

abbrev SubjectsAlike : List (List Triple) → Type 0
SubjectsAlike = AreAlike same_subject HasSubjectOf (λ t. refl) (λ t u v e h. h ∙ sym (same_subjects t u e))

abbrev FromKey : Triple → List Triple → Type 0
FromKey = FromFirst same_key HasKeyOf (λ t. refl) (λ t u v e h. h ∙ sym (same_keys t u e))

abbrev FromSubject : Triple → List Triple → Type 0
FromSubject = FromFirst same_subject HasSubjectOf (λ t. refl) (λ t u v e h. h ∙ sym (same_subjects t u e))

module _ (scope : Scope) where
  each_under : (s : Term) (t : Triple) (us : List Triple) → FromKey t us → Each (IsOf scope.base s) us → Each (IsUnder scope s (key_of t)) us
  each_under s t [] k h = tt
  each_under s t (u ∷ us) k h = (record { good = h.0.good; subject = h.0.subject; key = k.0 }, each_under s t us k.1 h.1)

  runs_under : (s : Term) (rs : List (List Triple)) → KeysAlike rs → EachRun (Each (IsOf scope.base s)) rs → EachRun (AreUnder scope s) rs
  runs_under s [] k h = tt
  runs_under s ([] ∷ rs) k h = absurd k.0
  runs_under s ((t ∷ ts) ∷ rs) k h = (each_under s t (t ∷ ts) k.0 h.0, runs_under s rs k.1 h.1)

  each_of : (t : Triple) (us : List Triple) → FromSubject t us → Each IsGood us → Each (IsOf scope.base t.s) us
  each_of t [] k h = tt
  each_of t (u ∷ us) k h = (record { good = h.0; subject = k.0 }, each_of t us k.1 h.1)

  -- ---- the walk over node objects

  walks_properties : (s : Term) (ts : List Triple) (a : State) → Each (IsOf scope.base s) ts → WalksMembers scope s (properties (runs same_key ts)) a (after a ts)
  walks_properties s ts a h =
      let rs = runs same_key ts in
      let same : flat_map (λ r. r) rs ≡ ts = run_elements same_key ts in
      subst (λ (us : List Triple). WalksMembers scope s (properties rs) a (after a us)) same
      (walks_members scope s rs a (runs_under s rs (keys_alike ts) (each_run (IsOf scope.base s) rs (subst (Each (IsOf scope.base s)) (sym same) h))))

  walks_node : (t : Triple) (ts : List Triple) (a : State) → Each (IsOf scope.base t.s) (t ∷ ts) → WalksNodeObject scope (node_object (t ∷ ts)) a (after a (sorted key_below (t ∷ ts)))
  walks_node t ts a h =
      let good = h.0.good in
      let name = named scope.base t.s (subject_named t.s good.rdf.0) good.absolute.s good.back.subject in
      (t.s, (a, (name, refl), (a, refl, walks_properties t.s (sorted key_below (t ∷ ts)) a (each_sorted (IsOf scope.base t.s) (t ∷ ts) h))))

  walks_nodes : (rs : List (List Triple)) (a : State) → SubjectsAlike rs → EachRun (Each IsGood) rs → WalksEachNodeObject scope (items_of (map node_object rs)) a (after a (flat_map (sorted key_below) rs))
  walks_nodes [] a k h = after_none a
  walks_nodes ([] ∷ rs) a k h = absurd k.0
  walks_nodes ((t ∷ ts) ∷ rs) a k h =
      let here = sorted key_below (t ∷ ts) in (
        after a here,
        walks_node t ts a (each_of t (t ∷ ts) k.0 h.0),
        subst (λ (b : State). WalksEachNodeObject scope (items_of (map node_object rs)) (after a here) b) (after_both a here (flat_map (sorted key_below) rs)) (walks_nodes rs (after a here) k.1 h.1),
      )

-- ---- the triples in the order of the walk

pub walked : List Triple → List Triple
walked g = flat_map (sorted key_below) (runs same_subject g)

moved_runs : (rs : List (List Triple)) → IsPermutation (flat_map (λ r. r) rs) (flat_map (sorted key_below) rs)
moved_runs [] = IsPermutation-refl []
moved_runs (r ∷ rs) = IsPermutation-append r (sorted key_below r) (flat_map (λ r. r) rs) (flat_map (sorted key_below) rs) (sorted_moves key_below r) (moved_runs rs)

pub walked_moves : (g : List Triple) → IsPermutation g (walked g)
unfolding walked
walked_moves g = subst (λ (ts : List Triple). IsPermutation ts (flat_map (sorted key_below) (runs same_subject g))) (run_elements same_subject g) (moved_runs (runs same_subject g))

walked_size : (g : List Triple) → triples_size (walked g) ≡ triples_size g
walked_size g = sum-map triple_size (walked g) ∙ sum_by-IsPermutation triple_size g (walked g) (walked_moves g) ∙ sym (sum-map triple_size g)

same_set : (g : List Triple) → SameSet g (walked g)
same_set g = λ x. (Contains-permutation g (walked g) x (walked_moves g), Contains-permutation (walked g) g x (IsPermutation-sym g (walked g) (walked_moves g)))

-- ---- the document is regular

module _ (base : List ℕ) where
  node_flat : (run : List Triple) → Each IsGood run → IsFlat 3 (node_object run)
  node_flat [] h = record { regular = tt; within = omega arith }
  node_flat (t ∷ ts) h =
      let us = sorted key_below (t ∷ ts) in
      let flat = properties_flat (runs same_key us) in
      record {
        regular = ((id_first base us (each_sorted IsGood (t ∷ ts) h), keys_ascend us (sorted_ascends key_below key_order (t ∷ ts))), (tt, flat.regular));
        within = omega (arith, flat.within);
      }

  nodes_flat : (rs : List (List Triple)) → EachRun (Each IsGood) rs → AreFlat 3 (items_of (map node_object rs))
  nodes_flat [] h = record { regular = tt; within = omega arith }
  nodes_flat (r ∷ rs) h =
      let one = node_flat r h.0 in
      let more = nodes_flat rs h.1 in
      record { regular = (one.regular, more.regular); within = omega (arith, one.within, more.within) }

  all_good : (g : List Triple) → All IsRdf g → All HasAbsoluteIris g → GraphReadsBack g → All IsGood g
  all_good g r a b = λ k d l. record { rdf = r k d l; absolute = a k d l; back = b k d l }

  runs_good : (g : List Triple) → All IsGood g → EachRun (Each IsGood) (runs same_subject g)
  runs_good g h = each_run IsGood (runs same_subject g) (subst (Each IsGood) (sym (run_elements same_subject g)) (each_from_all IsGood g h))

  document_flat : (g : List Triple) → All IsGood g → IsFlat 4 (document g)
  document_flat g h = let flat = nodes_flat (runs same_subject g) (runs_good g h) in record { regular = flat.regular; within = omega (arith, flat.within) }

  -- ---- the document stands for the graph

  pub expands_walked : (g : List Triple) → All IsGood g → ExpandsTo base (document g) (walked g)
  unfolding walked
  expands_walked g h = record {
    end = after start (walked g);
    walk = walks_nodes (scope_of base (document g)) (runs same_subject g) start (subjects_alike g) (runs_good g h);
    said = refl;
  }

  tokens_are : (g : List Triple) (bytes : List ℕ) → IsDocumentText g bytes → tokens bytes ≡ json_tokens (outline (document g))
  unfolding tokens_of
  tokens_are g bytes t = t.tokens

  pub is_document : (g : List Triple) (bytes : List ℕ) → IsGraph g → All HasAbsoluteIris g → IsDocumentText g bytes → GraphReadsBack g → triples_size g ≤ TRIPLES_LIMIT → IsDocumentOf base bytes g
  is_document g bytes graph absolute text back small =
      let good = all_good g graph.rdf absolute back in
      let flat = document_flat g good in
      record {
        value = document g;
        json = record { utf8 = text.utf8; reads = read_tokens (document g) bytes (tokens_are g bytes text) flat.regular (omega (arith, flat.within)) };
        expands = record { triples = walked g; expands = expands_walked g good; members = same_set g };
        within = subst (λ n. n ≤ TRIPLES_LIMIT) (sym (walked_size g)) small;
      }

pub text_is : (g : List Triple) (bytes : List ℕ) → IsDocumentText g bytes → bytes ≡ document_text g
unfolding tokens_of
text_is g bytes t = t.text ∙ print-outline (document g)
