-- What of a graph its document can say, so that it is read back.
use Rattle.std.specs.Prelude.{◌≡◌, List, ◌++◌, All, map, codes}
use Rattle.std.specs.Char.{to_ascii_lowercase}
use Rattle.turtle_lex.specs.Laws.{IsTextOf}
use Rattle.turtle_lex.specs.Terminals.{label as blank_label, lang_tag}
use Rattle.rdf_graph.specs.declared.term.Term.{Term}
use Rattle.rdf_graph.specs.declared.term.Term.TheVariants.{Iri, Blank, Literal, Tagged}
use Rattle.rdf_graph.specs.declared.triple.Triple.{Triple}

-- any IRI, a label of Turtle, a language tag in lower case
abbrev pub ReadsBack : Term → Type 0
ReadsBack (Iri iri) = Unit {0}
ReadsBack (Blank label) = IsTextOf blank_label label
ReadsBack (Literal lexical datatype) = Unit {0}
ReadsBack (Tagged lexical lang) =
    IsTextOf lang_tag (codes "@" ++ lang) × (map to_ascii_lowercase lang ≡ lang)

-- the subjects and objects of the triples are read back
pub record TripleReadsBack (t : Triple) : Type 0 where
  pub subject : ReadsBack t.s
  pub object : ReadsBack t.o

abbrev pub GraphReadsBack : List Triple → Type 0
GraphReadsBack graph = All TripleReadsBack graph
