use Rattle.std.proofs.Common.{◌≡◌, ◌∙◌, sym, ap, subst, IfOk}
use Rattle.pod_rows.specs.View.{triples_in}
use Rattle.pod_representations.specs.Representations.{graph_shown}
use Rattle.pod_representations.specs.declared.representation.Shown.{Shown}
use Rattle.pod_representations.proofs.Depends.{by_bytes, by_graph, container_graph, own_graph}
use Rattle.pod_representations.proofs.representation.represent.Goals as goal

pub returns-in_ok-view-in-Graph : goal.returns-in_ok-view-in-Graph
returns-in_ok-view-in-Graph g c =
    let pod = g.S.PodState.pod c.args.state.now in
    let view = c.in_ok-view-in-Graph.view in
    let shows : graph_shown pod c.args.row.now ≡ view = container_graph pod c.args.row.now (sym c.is_container.ensures ∙ c.if-is_container.true) ∙ sym c.in_ok-view-in-Graph.ensures in
    subst (λ (s : Shown). IfOk c.graph_as.result (λ shown. shown ≡ s)) (sym (by_graph pod c.args.row.now c.args.media c.in-Graph.stored view c.in-Graph.is shows)) c.graph_as.ensures

pub returns-else-is_container : goal.returns-else-is_container
returns-else-is_container g c =
    let pod = g.S.PodState.pod c.args.state.now in
    let own = c.graph.result.now in
    let shows : graph_shown pod c.args.row.now ≡ own = own_graph pod c.args.row.now (sym c.is_container.ensures ∙ c.if-is_container.false) ∙ ap triples_in c.in-Graph.is ∙ sym c.graph.ensures in
    subst (λ (s : Shown). IfOk c.graph_as-else-is_container.result (λ shown. shown ≡ s)) (sym (by_graph pod c.args.row.now c.args.media c.in-Graph.stored own c.in-Graph.is shows)) c.graph_as-else-is_container.ensures

pub returns-in-Bytes : goal.returns-in-Bytes
returns-in-Bytes g c =
    let pod = g.S.PodState.pod c.args.state.now in
    subst (λ (s : Shown). IfOk c.bytes_as.result (λ shown. shown ≡ s)) (sym (by_bytes pod c.args.row.now c.args.media c.in-Bytes.ctype c.in-Bytes.bytes c.in-Bytes.is)) c.bytes_as.ensures
