-- The graph of a text of Turtle.
use Rattle.std.specs.Prelude.{ℕ, List}
use Rattle.rdf_graph.specs.declared.triple.Triple.{Triple as RdfTriple}
use Rattle.rdf_graph.specs.Graph.{IsGraph, SameSet}
use Rattle.turtle_grammar.specs.declared.production.Production.{Production}
use Rattle.turtle_grammar.specs.declared.symbol.Start.TheVariants.{Document}
use Rattle.turtle_reader.specs.declared.meaning.Meaning.{Meaning}
use Rattle.turtle_reader.specs.Texts.{IsText}
use Rattle.turtle_text.specs.Triples.{AreTriplesOf}

-- The bytes spell these triples under a base, in order of production: they are a document, whose
-- productions these are.
pub record SpellsTriples (base bytes : List ℕ) (triples : List RdfTriple) : Type 0 where
  pub productions : List Production
  pub meanings : List Meaning
  pub text : IsText Document base bytes productions meanings
  pub are_triples : AreTriplesOf bytes meanings productions triples

-- The bytes spell the graph that is the set of these triples.
pub record Spells (base bytes : List ℕ) (graph : List RdfTriple) : Type 0 where
  pub triples : List RdfTriple
  pub spells : SpellsTriples base bytes triples
  pub is_graph : IsGraph graph
  pub same : SameSet graph triples
