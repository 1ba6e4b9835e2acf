-- The triples that a container with a URI has for its children.
use Rattle.std.specs.Prelude.{ℕ, List, map}
use Rattle.pod_path.specs.Hierarchy.{uri_of}
use Rattle.rdf_graph.specs.Triple.{iri_triple}
use Rattle.rdf_graph.specs.declared.triple.Triple.{Triple}
use Rattle.pod_rows.specs.Vocabulary.{ldp_contains}

abbrev pub child_triples : List ℕ → List ℕ → List (List ℕ) → List Triple
child_triples base uri children =
    map (λ child. iri_triple uri ldp_contains (uri_of base child)) children
