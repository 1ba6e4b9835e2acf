-- What the text of a graph can say of its terms, so that it spells the graph again.
use Rattle.std.specs.Prelude.{◌≡◌, ℕ, List, ◌++◌, All, map, codes}
use Rattle.std.specs.Char.{to_ascii_lowercase}
use Rattle.std.specs.Str.{IsUtf8}
use Rattle.iri_ref.specs.Components.{IsAbsolute}
use Rattle.turtle_lex.specs.Laws.{IsTextOf}
use Rattle.turtle_lex.specs.Terminals.{label as blank_label, lang_tag}
use Rattle.rdf_graph.specs.declared.term.Term.{Term}
use Rattle.rdf_graph.specs.declared.term.Term.TheVariants.{Iri, Blank, Literal, Tagged}
use Rattle.rdf_graph.specs.declared.triple.Triple.{Triple}

-- UTF-8 with a scheme and without a character that IRIREF forbids
pub record IsIriText (iri : List ℕ) : Type 0 where
  pub utf8 : IsUtf8 iri
  pub absolute : IsAbsolute iri

-- The texts of the term are UTF-8, and its IRIs are absolute. It is so for each term
-- of a `Graph`, by its types.
abbrev pub HasTexts : Term → Type 0
HasTexts (Iri iri) = IsIriText iri
HasTexts (Blank label) = Unit {0}
HasTexts (Literal lexical datatype) = IsUtf8 lexical × IsIriText datatype
HasTexts (Tagged lexical lang) = IsUtf8 lexical

pub record TripleHasTexts (t : Triple) : Type 0 where
  pub subject : HasTexts t.s
  pub predicate : HasTexts t.p
  pub object : HasTexts t.o

abbrev pub GraphHasTexts : List Triple → Type 0
GraphHasTexts graph = All TripleHasTexts graph

-- A label is what follows `_:` in a BLANK_NODE_LABEL, and a tag is a LANGTAG without its `@`, in
-- lower case.
abbrev pub IsReadBack : Term → Type 0
IsReadBack (Iri iri) = Unit {0}
IsReadBack (Blank label) = IsTextOf blank_label label
IsReadBack (Literal lexical datatype) = Unit {0}
IsReadBack (Tagged lexical lang) =
    IsTextOf lang_tag (codes "@" ++ lang) × (map to_ascii_lowercase lang ≡ lang)

pub record TripleIsReadBack (t : Triple) : Type 0 where
  pub subject : IsReadBack t.s
  pub predicate : IsReadBack t.p
  pub object : IsReadBack t.o

abbrev pub GraphIsReadBack : List Triple → Type 0
GraphIsReadBack graph = All TripleIsReadBack graph
