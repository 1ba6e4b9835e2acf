-- What a container shows (LDP 1.0, section 5.2).
use Rattle.std.specs.Prelude.{ℕ, List, [], ◌∷◌, ◌++◌, Option, Some, None, map}
use Rattle.acl_rules.specs.Vocabulary.{rdf_type}
use Rattle.pod_path.specs.Hierarchy.{uri_of}
use Rattle.pod_command.specs.declared.row.Content.{Content}
use Rattle.pod_command.specs.declared.row.Content.TheVariants as contents
use Rattle.pod_command.specs.declared.row.Row.{Row}
use Rattle.rdf_graph.specs.Triple.{iri_triple}
use Rattle.rdf_graph.specs.declared.triple.Triple.{Triple}
use Rattle.pod_rows.specs.GraphSets.{graph_of}
use Rattle.pod_rows.specs.Pod.{Pod, row_at}
use Rattle.pod_rows.specs.Tree.{children_of}
use Rattle.pod_rows.specs.Vocabulary.{ldp_basic_container, ldp_container, ldp_resource}
use Rattle.pod_rows.specs.Vocabulary.{ldp_contains}

-- The three types of every container.
abbrev pub type_triples : List ℕ → List Triple
type_triples uri = iri_triple uri rdf_type ldp_basic_container
    ∷ iri_triple uri rdf_type ldp_container
    ∷ iri_triple uri rdf_type ldp_resource ∷ []

-- A container contains its children.
abbrev pub contains_triples : List ℕ → List ℕ → List (List ℕ) → List Triple
contains_triples base container children =
    map (λ child. iri_triple (uri_of base container) ldp_contains (uri_of base child)) children

-- The triples of a content: none where it holds bytes.
abbrev pub triples_in : Content → List Triple
triples_in (contents.Graph triples) = triples
triples_in (contents.Bytes ctype bytes) = []

-- The own triples of a row: none where there is no row.
abbrev pub own_triples : Option Row → List Triple
own_triples None = []
own_triples (Some row) = triples_in row.content

-- All triples that a container shows: its own, its types and its children. A triple may be here
-- more than once.
abbrev pub shown_triples : Pod → List ℕ → List Triple
shown_triples pod container = own_triples (row_at pod.rows container)
    ++ (type_triples (uri_of pod.base container)
    ++ contains_triples pod.base container (children_of pod.rows container))

-- The view of a container: the graph of these.
abbrev pub view_of : Pod → List ℕ → List Triple
view_of pod container = graph_of (shown_triples pod container)
