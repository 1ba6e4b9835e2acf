use Rattle.std.proofs.Common.{◌∙◌, ◌++◌, sym, ap, subst, List, ℕ}
use Rattle.std.specs.List.{All}
use Rattle.pod_path.specs.Hierarchy.{uri_of}
use Rattle.rdf_graph.specs.Triple.{IsRdf}
use Rattle.rdf_graph.specs.declared.triple.Triple.{Triple}
use Rattle.pod_rows.specs.ContainedTriples.{child_triples}
use Rattle.pod_rows.specs.GraphSets.{graph_of}
use Rattle.pod_rows.specs.View.{own_triples, type_triples}
use Rattle.pod_rows.proofs.Shown.{shown_are_rdf, shown_is}
use Rattle.pod_rows.proofs.container_graph.container_view.Goals as goal

pub graph_of-requires : goal.graph_of-requires
graph_of-requires g c =
    subst (All IsRdf)
    (sym (c.in_ok-shown.ensures
    ∙ ap (λ (ts : List Triple). ts ++ child_triples c.base-2.result.now c.in_ok-uri.uri c.as_slice.result.now)
    (c.in_ok-typed.ensures ∙ ap (λ (ts : List Triple). ts ++ type_triples c.in_ok-uri.uri) c.into_vec.ensures)))
    (shown_are_rdf c.in_ok-own.own.items c.base-2.result.now c.in_ok-uri.uri c.as_slice.result.now c.in_ok-own.ensures.rdf)

pub returns : goal.returns
returns g c =
    c.graph_of.ensures
    ∙ ap graph_of
    (c.in_ok-shown.ensures
    ∙ ap (λ (ts : List Triple). ts ++ child_triples c.base-2.result.now c.in_ok-uri.uri c.as_slice.result.now)
    (c.in_ok-typed.ensures ∙ ap (λ (ts : List Triple). ts ++ type_triples c.in_ok-uri.uri) c.into_vec.ensures)
    ∙ shown_is (g.S.PodState.pod c.args.state.now) c.args.path.now c.in_ok-own.own.items c.base-2.result.now c.in_ok-uri.uri c.as_slice.result.now
    (c.in_ok-own.ensures.own ∙ ap own_triples c.find.ensures)
    c.base-2.ensures
    (c.in_ok-uri.ensures ∙ ap (λ (b : List ℕ). uri_of b c.args.path.now) c.base.ensures)
    (c.as_slice.ensures ∙ c.in_ok-children.ensures))
