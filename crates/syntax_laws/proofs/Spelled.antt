-- The text of a graph spells the graph.
use Rattle.std.proofs.Common.{ℕ, false, List, [], None, Ok, refl, sym, ◌∙◌, subst}
use Rattle.rdf_graph.specs.Graph.{IsGraph, graph_text}
use Rattle.rdf_graph.specs.declared.triple.Triple.{Triple as RdfTriple}
use Rattle.turtle_lex.specs.Pattern.{Matches}
use Rattle.turtle_lex.specs.Terminals.{last_gap}
use Rattle.turtle_grammar.specs.declared.symbol.Symbol.{Symbol}
use Rattle.turtle_grammar.specs.declared.symbol.Start.TheVariants.{Document}
use Rattle.turtle_grammar.specs.Derivations.{AreAllowed, Derives}
use Rattle.turtle_grammar.specs.Productions.{document_end, start_point}
use Rattle.turtle_reader.specs.declared.lexeme.Lexeme.{Lexeme}
use Rattle.turtle_reader.specs.Contexts.{at_start}
use Rattle.turtle_reader.specs.Lexemes.{lexemes_of, symbols_of}
use Rattle.turtle_reader.specs.Meanings.{AreMeanings}
use Rattle.turtle_reader.specs.Texts.{AreFirst}
use Rattle.turtle_reader.proofs.OneLexeme.{tokens_are_lexemes}
use Rattle.turtle_text.specs.Triples.{AreTriplesOf}
use Rattle.turtle_text.specs.Spells.{SpellsTriples}
use Rattle.syntax_laws.specs.Laws.{WrittenGraphsSpell}
use Rattle.syntax_laws.specs.ReadBack.{GraphHasTexts, GraphIsReadBack}
use Rattle.syntax_laws.proofs.Pieces.{Piece, pieces_text, tokens_of, IsAt, has_tokens}
use Rattle.syntax_laws.proofs.Graphs.{graph_pieces, graph_end, pieces_are, graph_written, gap_left, nothing_is_gap}
use Rattle.syntax_laws.proofs.Meanings.{meanings_of, meanings_are, graph_meant}
use Rattle.syntax_laws.proofs.Trees.{document_of, kinds_of, symbols_are, document_same, are_plain, are_allowed}
use Rattle.syntax_laws.proofs.Productions.{graph_done}

-- the lexemes of a graph's text
abbrev pub graph_lexemes : List RdfTriple → List Lexeme
graph_lexemes graph = lexemes_of (tokens_of 0 (graph_pieces [] graph))

starts : (graph : List RdfTriple) → IsAt (graph_text graph) 0 (pieces_text (graph_pieces [] graph) (graph_end [] graph))
starts graph = record { before = []; bytes_are = sym (pieces_are [] graph); len = refl }

pub are_lexemes : (base : List ℕ) (graph : List RdfTriple) → GraphHasTexts graph → GraphIsReadBack graph
    → AreFirst Document (graph_text graph) (graph_lexemes graph) (Ok None)
are_lexemes base graph h k =
    let t = has_tokens (graph_pieces [] graph) (graph_text graph) 0 false (graph_end [] graph) (starts graph)
    (graph_written base [] graph nothing_is_gap h k false) in
    tokens_are_lexemes Document (graph_text graph) (tokens_of 0 (graph_pieces [] graph))
    (t.end, t.string, t.tokens, subst (λ (xs : List ℕ). Matches last_gap xs []) (sym t.left) (gap_left graph))

pub derives : (base : List ℕ) (graph : List RdfTriple) → IsGraph graph → GraphHasTexts graph → GraphIsReadBack graph
    → Derives Document (symbols_of (graph_lexemes graph)) (document_end (document_of graph) start_point).produced
derives base graph is_graph h k =
    let ps : List Piece = graph_pieces [] graph in
    let same = symbols_are 0 ps in
    record {
      tree = document_of graph;
      symbols_are = document_same [] graph is_graph.rdf ∙ sym same;
      produced = refl;
      allowed = subst (λ (xs : List Symbol). AreAllowed Document 0 xs) (sym same) (are_allowed (kinds_of ps) (are_plain base ps (graph_meant base [] graph h k)));
    }

pub are_meanings : (base : List ℕ) (graph : List RdfTriple) → GraphHasTexts graph → GraphIsReadBack graph
    → AreMeanings (graph_text graph) (at_start base) (graph_lexemes graph) (meanings_of (graph_pieces [] graph))
are_meanings base graph h k =
    meanings_are (graph_pieces [] graph) base (graph_text graph) 0 (graph_end [] graph) (starts graph) (graph_meant base [] graph h k)

pub are_triples : (graph : List RdfTriple) → IsGraph graph
    → AreTriplesOf (graph_text graph) (meanings_of (graph_pieces [] graph)) (document_end (document_of graph) start_point).produced graph
are_triples graph is_graph =
    graph_done (graph_text graph) (meanings_of (graph_pieces [] graph)) [] graph start_point [] is_graph.rdf (record { triples = refl; left = refl })

spells_triples : (base : List ℕ) (graph : List RdfTriple) → IsGraph graph → GraphHasTexts graph → GraphIsReadBack graph → SpellsTriples base (graph_text graph) graph
spells_triples base graph is_graph h k = record {
  productions = (document_end (document_of graph) start_point).produced;
  meanings = meanings_of (graph_pieces [] graph);
  text = record {
    lexemes = graph_lexemes graph;
    are_lexemes = are_lexemes base graph h k;
    derives = derives base graph is_graph h k;
    means = are_meanings base graph h k;
  };
  are_triples = are_triples graph is_graph;
}

pub written_graphs_spell : WrittenGraphsSpell
written_graphs_spell base graph is_graph h k = record {
  triples = graph;
  spells = spells_triples base graph is_graph h k;
  is_graph = is_graph;
  same = λ t. (λ c. c, λ c. c);
}
