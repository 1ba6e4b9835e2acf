-- Where a search looks triples up: in a graph in its order, or in an index of its triples.
use Rattle.std.specs.Prelude.{ℕ, List, [], ◌∷◌, ◌≡◌, ◌≢◌, Option, None, Some, Contains, map}
use Rattle.std.specs.List.{IsDistinct}
use Rattle.std.specs.List.Sorted.{IsPermutation, IsSortedByKey}
use Rattle.std.specs.declared.cmp.Ordering.{Ordering}
use Rattle.std.specs.declared.cmp.Ordering.TheVariants.{Equal}
use Rattle.std.specs.Ordering.{eq_by_cmp, nat_cmp, on, then_cmp}
use Rattle.rdf_graph.specs.Graph.{IsOrdered}
use Rattle.rdf_graph.specs.Triple.{IsGivenTerm, bytes_cmp, triple_cmp}
use Rattle.graph_patch.specs.declared.triple_index.KeyOrder.{KeyOrder}
use Rattle.graph_patch.specs.declared.triple_index.KeyOrder.TheVariants.{PredicateObject, ObjectSubject}
use Rattle.graph_patch.specs.declared.triple_lookup.Candidates.{Candidates}
use Rattle.graph_patch.specs.declared.triple_lookup.Lookup.{Lookup}
use Rattle.rdf_graph.specs.declared.term.Term.{Term}
use Rattle.rdf_graph.specs.declared.term.Term.TheVariants.{Iri, Blank, Literal, Tagged}
use Rattle.rdf_graph.specs.declared.triple.Triple.{Triple}
use denote.Ref.{Bor}

-- the triples of an index, or else those in the order of the graph
abbrev pub indexed_or : List Triple → List Triple → List Triple
indexed_or [] in_order = in_order
indexed_or (x ∷ xs) in_order = x ∷ xs

abbrev pub candidate_triples : Candidates → List Triple
candidate_triples candidates =
    indexed_or (map (λ (r : Bor Triple). r.now) candidates.indexed.now) candidates.in_order.now

-- some of the triples, each once, with all those that have the given terms
pub record AreCandidates (s p o : Option Term) (triples candidates : List Triple) : Type 0 where
  pub within : (x : Triple) → Contains candidates x → Contains triples x
  pub complete : (x : Triple) → Contains triples x → IsGivenTerm s x.s → IsGivenTerm p x.p
      → IsGivenTerm o x.o → Contains candidates x
  pub once : IsDistinct (eq_by_cmp triple_cmp) candidates

-- the terms by which an index orders a triple
abbrev pub key : KeyOrder → Triple → Term × Term
key PredicateObject t = (t.p, t.o)
key ObjectSubject t = (t.o, t.s)

-- a term's kind and its texts
abbrev pub kind : Term → ℕ
kind (Iri iri) = 0
kind (Blank label) = 1
kind (Literal lexical datatype) = 2
kind (Tagged lexical lang) = 3

abbrev pub first_text : Term → List ℕ
first_text (Iri iri) = iri
first_text (Blank label) = label
first_text (Literal lexical datatype) = lexical
first_text (Tagged lexical lang) = lexical

abbrev pub second_text : Term → List ℕ
second_text (Iri iri) = []
second_text (Blank label) = []
second_text (Literal lexical datatype) = datatype
second_text (Tagged lexical lang) = lang

-- an order of terms by their parts
unfoldable pub parts_cmp : Term → Term → Ordering
parts_cmp =
    then_cmp (on kind nat_cmp)
    (then_cmp (on first_text bytes_cmp) (on second_text bytes_cmp))

unfoldable pub key_cmp : Term × Term → Term × Term → Ordering
key_cmp = then_cmp (on (λ k. k.0) parts_cmp) (on (λ k. k.1) parts_cmp)

-- how a key compares with those that have this first term, and this second one where it is given
unfoldable pub key_order : Option Term → Term → Term × Term → Ordering
key_order None first k = parts_cmp k.0 first
key_order (Some second) first k = key_cmp k (first, second)

-- the triples, in the order of their keys
pub record IsIndex (order : KeyOrder) (triples : List Triple) (index : List (Bor Triple)) : Type 0 where
  pub moved : IsPermutation triples (map (λ (r : Bor Triple). r.now) index)
  pub sorted : IsSortedByKey (λ (r : Bor Triple). key order r.now) key_cmp index

-- some of the triples, each once, with all those that have these terms in their keys
pub record IsKeyRange (order : KeyOrder) (first : Term) (second : Option Term)
    (triples key_range : List Triple) : Type 0 where
  pub within : (x : Triple) → Contains key_range x → Contains triples x
  pub complete : (x : Triple) → Contains triples x → key_order second first (key order x) ≡ Equal
      → Contains key_range x
  pub once : IsDistinct (eq_by_cmp triple_cmp) key_range

-- the triples in order, and the indexes, where they were made, of all of them
pub record IsIndexed (lookup : Lookup) : Type 0 where
  pub ordered : IsOrdered lookup.triples.now
  pub by_predicate : lookup.by_predicate.now ≢ []
      → IsIndex PredicateObject lookup.triples.now lookup.by_predicate.now
  pub by_object : lookup.by_object.now ≢ []
      → IsIndex ObjectSubject lookup.triples.now lookup.by_object.now

-- the same, which no search for a proof unfolds
unfoldable pub IsLookup : Lookup → Type 0
IsLookup lookup = IsIndexed lookup
