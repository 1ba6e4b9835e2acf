-- What a row of a pod is shown as (RFC 9110, section 3.2): a graph in one of two types, bytes as
-- they are stored. Of the pod it depends on what `view_of` depends on: the container's row and the
-- paths of its children.
use Rattle.std.specs.Prelude.{ℕ, true, false, if◌then◌else◌, List}
use Rattle.conditional_req.specs.Tags.{tag_text}
use Rattle.conditional_req.specs.declared.tag.Tag.{Tag}
use Rattle.jsonld_expanded.specs.Document.{document_text}
use Rattle.pod_base.specs.declared.moment.Moment.{Moment}
use Rattle.pod_command.specs.declared.row.Content.{Content}
use Rattle.pod_command.specs.declared.row.Content.TheVariants as contents
use Rattle.pod_command.specs.declared.row.Row.{Row}
use Rattle.pod_rows.specs.Pod.{Pod}
use Rattle.pod_rows.specs.View.{triples_in, view_of}
use Rattle.pod_rows.specs.WellFormed.{is_container_kind}
use Rattle.rdf_graph.specs.Graph.{graph_text}
use Rattle.rdf_graph.specs.declared.triple.Triple.{Triple}
use Rattle.pod_representations.specs.Offers.{turtle_type, json_ld_type}
use Rattle.pod_representations.specs.declared.row_offers.Media.{Media}
use Rattle.pod_representations.specs.declared.row_offers.Media.TheVariants.{Turtle, JsonLd, Stored}
use Rattle.pod_representations.specs.declared.representation.Shown.{Shown}

-- the graph that a row shows: the view of a container, and the own triples of every other row
unfoldable pub graph_shown : Pod → Row → List Triple
graph_shown pod row = if is_container_kind row.kind then view_of pod row.path
    else triples_in row.content

-- The type of a graph, its text and the mark of its tag. It is Turtle but where JSON-LD is
-- chosen.
abbrev pub graph_type : Media → List ℕ
graph_type Turtle = turtle_type
graph_type JsonLd = json_ld_type
graph_type Stored = turtle_type

unfoldable pub graph_body : Media → List Triple → List ℕ
graph_body Turtle triples = graph_text triples
graph_body JsonLd triples = document_text triples
graph_body Stored triples = graph_text triples

-- `t` or `j`
abbrev pub graph_mark : Media → ℕ
graph_mark Turtle = 116
graph_mark JsonLd = 106
graph_mark Stored = 116

-- the entity tag of a type, a body and a mark
unfoldable pub tag : List ℕ → List ℕ → ℕ → Tag
tag ctype body mark = record { 0 = tag_text ctype body mark }

-- the tag of a graph in a type, and of bytes, whose mark is `b`
abbrev pub graph_tag : Media → List Triple → Tag
graph_tag media triples = tag (graph_type media) (graph_body media triples) (graph_mark media)

abbrev pub bytes_tag : List ℕ → List ℕ → Tag
bytes_tag ctype bytes = tag ctype bytes 98

-- a graph in a type, changed at that moment
abbrev pub graph_as : Media → List Triple → Moment → Shown
graph_as media triples modified = record {
  ctype = graph_type media;
  body = graph_body media triples;
  tag = graph_tag media triples;
  modified = modified;
  ranges = false;
}

-- bytes of a type, of which parts may be requested
abbrev pub bytes_as : List ℕ → List ℕ → Moment → Shown
bytes_as ctype bytes modified = record {
  ctype = ctype;
  body = bytes;
  tag = bytes_tag ctype bytes;
  modified = modified;
  ranges = true;
}

-- What a content is shown as, where a graph shows these triples.
abbrev pub content_as : Content → List Triple → Media → Moment → Shown
content_as (contents.Graph own) triples media modified = graph_as media triples modified
content_as (contents.Bytes ctype bytes) triples media modified = bytes_as ctype bytes modified

-- The representation of a row of a pod.
unfoldable pub represented : Pod → Row → Media → Shown
represented pod row media = content_as row.content (graph_shown pod row) media row.modified
