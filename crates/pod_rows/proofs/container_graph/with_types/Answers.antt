use Rattle.std.proofs.Common.{◌∙◌, ◌++◌, ap, List, [], ◌∷◌}
use Rattle.acl_rules.specs.Vocabulary.{rdf_type}
use Rattle.rdf_graph.specs.Triple.{iri_triple}
use Rattle.rdf_graph.specs.declared.triple.Triple.{Triple}
use Rattle.pod_rows.specs.Vocabulary.{ldp_basic_container, ldp_container, ldp_resource}
use Rattle.pod_rows.proofs.Shown.{three_more}
use Rattle.pod_rows.proofs.container_graph.with_types.Goals as goal

pub returns : goal.returns
unfolding ldp_basic_container ldp_container ldp_resource
returns c =
    let uri = c.args.uri.now in
    c.in_ok-three.ensures
    ∙ ap (λ (ts : List Triple). ts ++ iri_triple uri rdf_type ldp_resource ∷ [])
    (c.in_ok-two.ensures ∙ ap (λ (ts : List Triple). ts ++ iri_triple uri rdf_type ldp_container ∷ []) c.in_ok-one.ensures)
    ∙ three_more c.args.triples.items (iri_triple uri rdf_type ldp_basic_container) (iri_triple uri rdf_type ldp_container) (iri_triple uri rdf_type ldp_resource)
