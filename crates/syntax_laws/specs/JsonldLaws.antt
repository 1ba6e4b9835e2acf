-- What holds of each graph that was read. Each law is a clause of a function.
use Rattle.std.specs.Prelude.{ℕ, List}
use Rattle.rdf_graph.specs.declared.triple.Triple.{Triple}
use Rattle.serde_json.specs.Data.{Data}
use Rattle.jsonld_expanded.specs.Expands.{Expands}
use Rattle.jsonld_expanded.specs.ReadsBack.{GraphReadsBack}
use Rattle.syntax_laws.specs.ReadBack.{GraphIsReadBack}
use Rattle.turtle_text.specs.Spells.{Spells}

-- The graph that a JSON value stands for has terms that are read back from its Turtle text.
abbrev pub ExpandedGraphsAreReadBack : Type 0
ExpandedGraphsAreReadBack = (base : List ℕ) (value : Data) (graph : List Triple)
    → Expands base value graph → GraphIsReadBack graph

-- They are read back from its document as expanded JSON-LD.
abbrev pub ExpandedGraphsReadBack : Type 0
ExpandedGraphsReadBack = (base : List ℕ) (value : Data) (graph : List Triple)
    → Expands base value graph → GraphReadsBack graph

-- So are those of the graph that a Turtle text spells.
abbrev pub SpelledGraphsReadBack : Type 0
SpelledGraphsReadBack = (base bytes : List ℕ) (graph : List Triple) → Spells base bytes graph
    → GraphReadsBack graph
