-- What holds of the text of each graph. Each law is the contract of a function.
use Rattle.std.specs.Prelude.{ℕ, ◌≤◌, List, Result}
use Rattle.rdf_graph.specs.Graph.{IsGraph, graph_text}
use Rattle.rdf_graph.specs.Size.{triples_size}
use Rattle.rdf_graph.specs.declared.size.TheConstants.{TRIPLES_LIMIT}
use Rattle.rdf_graph.specs.declared.triple.Triple.{Triple}
use Rattle.turtle_terms.specs.declared.fault.TurtleFault.{TurtleFault}
use Rattle.turtle_text.specs.Faults.{HasOnlyGraph, IsGraphOrNoMemory, IsWithinLimits}
use Rattle.turtle_text.specs.Spells.{Spells}
use Rattle.syntax_laws.specs.ReadBack.{GraphHasTexts, GraphIsReadBack}

-- The text of a graph whose terms are read back spells the graph, under each base.
abbrev pub WrittenGraphsSpell : Type 0
WrittenGraphsSpell = (base : List ℕ) (graph : List Triple) → IsGraph graph → GraphHasTexts graph
    → GraphIsReadBack graph → Spells base (graph_text graph) graph

-- Where the triples of the graph are within the limit, its text is within the limits of a document.
abbrev pub WrittenGraphsAreWithinLimits : Type 0
WrittenGraphsAreWithinLimits = (base : List ℕ) (graph : List Triple) → IsGraph graph
    → GraphHasTexts graph → GraphIsReadBack graph → triples_size graph ≤ TRIPLES_LIMIT
    → IsWithinLimits base (graph_text graph)

-- A reader that has only the graph of a text within the limits, as `turtle_text::read`, returns
-- this graph for its text, or is out of memory.
abbrev pub WrittenGraphsAreRead : Type 0
WrittenGraphsAreRead = (base : List ℕ) (graph : List Triple) → IsGraph graph → GraphHasTexts graph
    → GraphIsReadBack graph → triples_size graph ≤ TRIPLES_LIMIT
    → (result : Result (List Triple) TurtleFault) → HasOnlyGraph base (graph_text graph) result
    → IsGraphOrNoMemory result graph

-- The graph that a text spells has terms that are read back, so that its own text spells it again.
abbrev pub SpelledGraphsAreReadBack : Type 0
SpelledGraphsAreReadBack = (base bytes : List ℕ) (graph : List Triple) → Spells base bytes graph
    → GraphIsReadBack graph
