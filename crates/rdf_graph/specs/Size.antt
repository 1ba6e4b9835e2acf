-- The encoded size of terms, triples, graphs and changes: how many bytes their stored form has.
-- There a text has eight bytes for its length, a term one byte for its kind, and a graph eight
-- bytes for its count.
use Rattle.std.specs.Prelude.{ℕ, List, ◌+◌, ◌-◌, ◌^◌, length, map, min, sum}
use Rattle.rdf_graph.specs.declared.term.Term.{Term}
use Rattle.rdf_graph.specs.declared.term.Term.TheVariants.{Iri, Blank, Literal, Tagged}
use Rattle.rdf_graph.specs.declared.triple.Triple.{Triple}

abbrev pub text_size : List ℕ → ℕ
text_size text = 8 + length text

-- a term's kind and its texts
abbrev pub term_size : Term → ℕ
term_size (Iri iri) = 1 + text_size iri
term_size (Blank label) = 1 + text_size label
term_size (Literal lexical datatype) = 1 + (text_size lexical + text_size datatype)
term_size (Tagged lexical lang) = 1 + (text_size lexical + text_size lang)

abbrev pub triple_size : Triple → ℕ
triple_size t = term_size t.s + (term_size t.p + term_size t.o)

abbrev pub triples_size : List Triple → ℕ
triples_size triples = sum (map triple_size triples)

-- a graph's count and its triples
abbrev pub graph_size : List Triple → ℕ
graph_size triples = 8 + triples_size triples

-- what is removed and what is added
abbrev pub change_size : List Triple → List Triple → ℕ
change_size removed added = graph_size removed + graph_size added

-- a size, or 2^64 - 1 where it exceeds that
unfoldable pub saturated : ℕ → ℕ
saturated n = min n (2 ^ 64 - 1)
