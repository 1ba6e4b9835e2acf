-- The document of a graph: an array with a node object for each subject, in the order of the graph.
-- (JSON-LD 1.1, section 9.)
use Rattle.std.specs.Prelude.{ℕ, Bool, true, false, ◌&&◌, List, [], ◌∷◌, ◌++◌, map, codes}
use Rattle.std.specs.Prelude.{if◌then◌else◌}
use Rattle.std.specs.Ordering.{is_lt}
use Rattle.std.specs.Str.{bytes_eq}
use Rattle.rdf_graph.specs.Term.{term_eq}
use Rattle.rdf_graph.specs.Triple.{bytes_cmp}
use Rattle.rdf_graph.specs.declared.term.Term.{Term}
use Rattle.rdf_graph.specs.declared.term.Term.TheVariants.{Iri, Blank, Literal, Tagged}
use Rattle.rdf_graph.specs.declared.triple.Triple.{Triple}
use Rattle.serde_json.specs.Data.{Data, null, string, array, object}
use Rattle.serde_json.specs.Data.{Members, no_members, member}
use Rattle.serde_json.specs.View.{items_of}
use Rattle.serde_json.specs.Written.{compact_text}
use Rattle.jsonld_expanded.specs.Vocabulary.{rdf_type, xsd_string}
use Rattle.jsonld_expanded.specs.Runs.{runs}
use Rattle.jsonld_expanded.specs.Sorted.{sorted}

-- the name of an IRI or a blank node
abbrev pub name_of : Term → List ℕ
name_of (Iri iri) = iri
name_of (Blank label) = codes "_:" ++ label
name_of (Literal lexical datatype) = []
name_of (Tagged lexical lang) = []

abbrev pub is_named : Term → Bool
is_named (Iri iri) = true
is_named (Blank label) = true
is_named (Literal lexical datatype) = false
is_named (Tagged lexical lang) = false

-- the IRI of a predicate
abbrev pub iri_of : Term → List ℕ
iri_of (Iri iri) = iri
iri_of (Blank label) = []
iri_of (Literal lexical datatype) = []
iri_of (Tagged lexical lang) = []

abbrev pub named_value : List ℕ → Data
named_value name = object (member (codes "@id") (string name) no_members)

abbrev pub string_value : List ℕ → Data
string_value lexical = object (member (codes "@value") (string lexical) no_members)

abbrev pub typed_value : List ℕ → List ℕ → Data
typed_value lexical datatype = object (member (codes "@type") (string datatype)
    (member (codes "@value") (string lexical) no_members))

abbrev pub tagged_value : List ℕ → List ℕ → Data
tagged_value lexical lang = object (member (codes "@language") (string lang)
    (member (codes "@value") (string lexical) no_members))

-- the node object of a name, or the value object of a literal
abbrev pub value_of : Term → Data
value_of (Iri iri) = named_value iri
value_of (Blank label) = named_value (codes "_:" ++ label)
value_of (Literal lexical datatype) =
    if bytes_eq datatype xsd_string then string_value lexical else typed_value lexical datatype
value_of (Tagged lexical lang) = tagged_value lexical lang

-- the object is a type of the subject: an IRI or a blank node as the object of `rdf:type`
abbrev pub is_type : Triple → Bool
is_type t = bytes_eq (iri_of t.p) rdf_type && is_named t.o

-- the key that the object of a triple is under, and how it is written there
abbrev pub key_of : Triple → List ℕ
key_of t = if is_type t then codes "@type" else iri_of t.p

abbrev pub object_of : Triple → Data
object_of t = if is_type t then string (name_of t.o) else value_of t.o

abbrev pub same_subject : Triple → Triple → Bool
same_subject t u = term_eq t.s u.s

abbrev pub same_key : Triple → Triple → Bool
same_key t u = bytes_eq (key_of t) (key_of u)

-- keys are in byte order
abbrev pub key_below : Triple → Triple → Bool
key_below t u = is_lt (bytes_cmp (key_of t) (key_of u))

-- the objects under one key, in the order of their triples
abbrev pub with_property : List Triple → Members → Members
with_property [] ms = ms
with_property (t ∷ ts) ms = member (key_of t) (array (items_of (map object_of (t ∷ ts)))) ms

abbrev pub properties : List (List Triple) → Members
properties [] = no_members
properties (run ∷ runs) = with_property run (properties runs)

-- the node object of the triples of one subject
abbrev pub node_object : List Triple → Data
node_object [] = null
node_object (t ∷ ts) = object (member (codes "@id") (string (name_of t.s))
    (properties (runs same_key (sorted key_below (t ∷ ts)))))

abbrev pub document : List Triple → Data
document graph = array (items_of (map node_object (runs same_subject graph)))

-- the text of a graph: that document without blanks
abbrev pub document_text : List Triple → List ℕ
document_text graph = compact_text (document graph)
