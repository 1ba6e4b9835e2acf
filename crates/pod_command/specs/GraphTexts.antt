-- What a graph is shown as in a type.
use Rattle.std.specs.Prelude.{◌≡◌, ℕ, List, codes}
use Rattle.jsonld_expanded.specs.Document.{document_text}
use Rattle.rdf_graph.specs.Graph.{graph_text}
use Rattle.rdf_graph.specs.declared.triple.Triple.{Triple}
use Rattle.stored_bytes.specs.Digests.{digest_of}
use Rattle.pod_command.specs.declared.graph_type.GraphType.{GraphType}
use Rattle.pod_command.specs.declared.graph_type.GraphType.TheVariants.{Turtle, JsonLd}
use Rattle.pod_command.specs.declared.stored_graph.GraphText.{GraphText}

-- the name of a type
abbrev pub type_name : GraphType → List ℕ
type_name Turtle = codes "text/turtle"
type_name JsonLd = codes "application/ld+json"

-- the text of the triples in a type
unfoldable pub text_in : GraphType → List Triple → List ℕ
text_in Turtle triples = graph_text triples
text_in JsonLd triples = document_text triples

-- the text of the triples in a type, and the digest of that representation
pub record IsTextOf (media : GraphType) (triples : List Triple) (shown : GraphText) : Type 0 where
  pub text : shown.text ≡ text_in media triples
  pub digest : shown.digest ≡ digest_of (type_name media) shown.text
