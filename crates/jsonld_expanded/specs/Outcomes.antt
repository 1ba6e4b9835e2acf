-- What `read` returns, and when.
use Rattle.std.specs.Prelude.{◌≡◌, ◌≤◌, ◌<◌, ℕ, List, Some}
use Rattle.std.specs.Str.{IsUtf8}
use Rattle.rdf_graph.specs.Size.{triples_size}
use Rattle.rdf_graph.specs.declared.triple.Triple.{Triple}
use Rattle.serde_json.specs.Data.{Data}
use Rattle.serde_json.specs.Read.{read}
use Rattle.rdf_graph.specs.declared.size.TheConstants.{TRIPLES_LIMIT}
use Rattle.jsonld_expanded.specs.Expands.{Expands, ExpandsTo}

-- `serde_json` has this value for the bytes
pub record IsJson (bytes : List ℕ) (value : Data) : Type 0 where
  pub utf8 : IsUtf8 bytes
  pub reads : read bytes ≡ Some value

-- the bytes are a document of the graph, and its triples are within the limit
pub record IsDocumentOf (base bytes : List ℕ) (graph : List Triple) : Type 0 where
  pub value : Data
  pub json : IsJson bytes value
  pub expands : Expands base value graph
  pub within : triples_size expands.triples ≤ TRIPLES_LIMIT

abbrev pub IsNotJson : List ℕ → Type 0
IsNotJson bytes = (value : Data) → IsJson bytes value → ⊥

pub record IsOutOfProfile (base bytes : List ℕ) : Type 0 where
  pub value : Data
  pub json : IsJson bytes value
  pub no_graph : (graph : List Triple) → Expands base value graph → ⊥

pub record IsTooLarge (base bytes : List ℕ) : Type 0 where
  pub value : Data
  pub json : IsJson bytes value
  pub triples : List Triple
  pub expands : ExpandsTo base value triples
  pub over : TRIPLES_LIMIT < triples_size triples
