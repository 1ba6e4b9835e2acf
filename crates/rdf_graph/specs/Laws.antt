-- What follows from the definitions.
use Rattle.std.specs.Prelude.{ℕ, List, [], ◌≡◌, ◌≢◌, ◌<◌, ◌≤◌, All, Contains, length}
use Rattle.std.specs.Prelude.{slice_index_or}
use Rattle.std.specs.declared.cmp.Ordering.TheVariants.{Less, Equal, Greater}
use Rattle.rdf_graph.specs.Change.{IsChanged}
use Rattle.rdf_graph.specs.Graph.{IsGraph, SameSet, graph_text}
use Rattle.rdf_graph.specs.Triple.{bytes_cmp, line, triple_cmp}
use Rattle.rdf_graph.specs.declared.term.Term.{Term}
use Rattle.rdf_graph.specs.declared.term.Term.TheVariants.{Iri, Blank, Literal, Tagged}
use Rattle.rdf_graph.specs.declared.triple.Triple.{Triple}

-- no IRI has a `>`, and no label and no language tag has a space
abbrev pub LacksDelimiters : Term → Type 0
LacksDelimiters (Iri iri) = All (λ byte. byte ≢ 62) iri
LacksDelimiters (Blank label) = All (λ byte. byte ≢ 32) label
LacksDelimiters (Literal lexical datatype) = All (λ byte. byte ≢ 62) datatype
LacksDelimiters (Tagged lexical lang) = All (λ byte. byte ≢ 32) lang

pub record TermsLackDelimiters (t : Triple) : Type 0 where
  pub s : LacksDelimiters t.s
  pub p : LacksDelimiters t.p
  pub o : LacksDelimiters t.o

-- triples that compare as equal are equal
abbrev pub OrderIsExact : Type 0
OrderIsExact = (t u : Triple) → triple_cmp t u ≡ Equal → t ≡ u

-- triples in order have lines in order
abbrev pub OrderFollowsLines : Type 0
OrderFollowsLines = (t u : Triple) → triple_cmp t u ≡ Less → bytes_cmp (line t) (line u) ≢ Greater

-- different triples have different lines
abbrev pub LinesIdentifyTriples : Type 0
LinesIdentifyTriples =
    (t u : Triple) → TermsLackDelimiters t → TermsLackDelimiters u → line t ≡ line u → t ≡ u

-- between two triples of one subject there are triples of that subject alone
abbrev pub SubjectsAreContiguous : Type 0
SubjectsAreContiguous =
    (g : List Triple) (i j k : ℕ) (d : Triple) → IsGraph g → All TermsLackDelimiters g → i ≤ j
    → j ≤ k → k < length g
    → (slice_index_or g i d).s ≡ (slice_index_or g k d).s
    → (slice_index_or g j d).s ≡ (slice_index_or g i d).s

-- graphs with the same triples are equal
abbrev pub SetsIdentifyGraphs : Type 0
SetsIdentifyGraphs = (g h : List Triple) → IsGraph g → IsGraph h → SameSet g h → g ≡ h

-- graphs with the same text are equal
abbrev pub TextsIdentifyGraphs : Type 0
TextsIdentifyGraphs =
    (g h : List Triple) → All TermsLackDelimiters g → All TermsLackDelimiters h
    → graph_text g ≡ graph_text h → g ≡ h

-- an empty change keeps the graph
abbrev pub EmptyChangeKeepsGraph : Type 0
EmptyChangeKeepsGraph =
    (old new : List Triple) → IsGraph old → IsGraph new → IsChanged old [] [] new → new ≡ old

-- a triple that is both removed and added is in the new graph
abbrev pub AddedTriplesRemain : Type 0
AddedTriplesRemain =
    (old removed added new : List Triple) (t : Triple) → IsChanged old removed added new
    → Contains removed t → Contains added t → Contains new t
