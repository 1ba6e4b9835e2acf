-- The terms of each graph that was read are read back.
use Rattle.std.proofs.Common.{◌≡◌, ℕ, List, sym, subst, arith}
use Rattle.std.proofs.lemmas.List.Elements.{All-contains}
use Rattle.std.specs.List.{All, Contains}
use Rattle.rdf_graph.proofs.Members.{All-from_members}
use Rattle.rdf_graph.specs.declared.term.Term.{Term}
use Rattle.rdf_graph.specs.declared.term.Term.TheVariants.{Iri, Blank, Literal, Tagged}
use Rattle.rdf_graph.specs.declared.triple.Triple.{Triple}
use Rattle.jsonld_expanded.specs.Expands.{scope_of, start}
use Rattle.jsonld_expanded.specs.ReadsBack.{ReadsBack, TripleReadsBack, GraphReadsBack}
use Rattle.syntax_laws.specs.ReadBack.{IsReadBack, TripleIsReadBack, GraphIsReadBack}
use Rattle.syntax_laws.specs.JsonldLaws.{ExpandedGraphsAreReadBack, ExpandedGraphsReadBack}
use Rattle.syntax_laws.proofs.Kept.{keeps-document}

pub expanded_are_read_back : ExpandedGraphsAreReadBack
expanded_are_read_back base value graph h =
    let x = h.expands in
    let kept : GraphIsReadBack x.end.triples = keeps-document (scope_of base value) value start x.end x.walk (λ k d l. absurd (omega (arith, l))) in
    let all : GraphIsReadBack h.triples = subst GraphIsReadBack (sym x.said) kept in
    All-from_members TripleIsReadBack graph (λ t at. All-contains TripleIsReadBack h.triples t all ((h.members t).0 at))

-- ---- documents

term_reads : (t : Term) → IsReadBack t → ReadsBack t
term_reads (Iri iri) x = tt
term_reads (Blank label) x = x
term_reads (Literal lexical datatype) x = tt
term_reads (Tagged lexical lang) x = x

triple_reads : (t : Triple) → TripleIsReadBack t → TripleReadsBack t
triple_reads t x = record { subject = term_reads t.s x.subject; object = term_reads t.o x.object }

pub graph_reads : (graph : List Triple) → GraphIsReadBack graph → GraphReadsBack graph
graph_reads graph all = All-from_members TripleReadsBack graph (λ t at. triple_reads t (All-contains TripleIsReadBack graph t all at))

pub expanded_read_back : ExpandedGraphsReadBack
expanded_read_back base value graph h = graph_reads graph (expanded_are_read_back base value graph h)
