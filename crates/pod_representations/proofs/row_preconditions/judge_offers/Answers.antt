use Rattle.std.proofs.Common.{◌≡◌, ◌∙◌, ◌∷◌, [], List, Some, sym, ap, subst, IfOk}
use Rattle.conditional_req.specs.Verdicts.{validators, verdict}
use Rattle.conditional_req.specs.declared.tag.Tag.{Tag}
use Rattle.pod_rows.specs.View.{triples_in}
use Rattle.pod_representations.specs.Representations.{graph_shown}
use Rattle.pod_representations.proofs.Depends.{bytes_tags, graph_tags, container_graph, own_graph}
use Rattle.pod_representations.proofs.row_preconditions.judge_offers.Goals as goal

pub returns-in_ok-view-in-Graph : goal.returns-in_ok-view-in-Graph
returns-in_ok-view-in-Graph g c =
    let pod = g.S.PodState.pod c.args.state.now in
    let view = c.in_ok-view-in-Graph.view in
    let shows : graph_shown pod c.args.row.now ≡ view = container_graph pod c.args.row.now (sym c.is_container.ensures ∙ c.if-is_container.true) ∙ sym c.in_ok-view-in-Graph.ensures in
    subst (λ (tags : List Tag). IfOk c.judge_graph.result (λ v. v ≡ verdict c.args.conditions.now c.args.method (Some (validators tags c.args.row.now.modified.0))))
    (sym (graph_tags pod c.args.row.now c.in-Graph.stored view c.in-Graph.is shows)) c.judge_graph.ensures

pub returns-else-is_container : goal.returns-else-is_container
returns-else-is_container g c =
    let pod = g.S.PodState.pod c.args.state.now in
    let own = c.graph.result.now in
    let shows : graph_shown pod c.args.row.now ≡ own = own_graph pod c.args.row.now (sym c.is_container.ensures ∙ c.if-is_container.false) ∙ ap triples_in c.in-Graph.is ∙ sym c.graph.ensures in
    subst (λ (tags : List Tag). IfOk c.judge_graph-else-is_container.result (λ v. v ≡ verdict c.args.conditions.now c.args.method (Some (validators tags c.args.row.now.modified.0))))
    (sym (graph_tags pod c.args.row.now c.in-Graph.stored own c.in-Graph.is shows)) c.judge_graph-else-is_container.ensures

pub returns-in-Bytes : goal.returns-in-Bytes
returns-in-Bytes g c =
    let pod = g.S.PodState.pod c.args.state.now in
    c.judge_tags.ensures
    ∙ ap (λ (tags : List Tag). verdict c.args.conditions.now c.args.method (Some (validators tags c.args.row.now.modified.0)))
    (ap (λ (t : Tag). t ∷ []) c.bytes_tag-tag.ensures ∙ sym (bytes_tags pod c.args.row.now c.in-Bytes.ctype c.in-Bytes.bytes c.in-Bytes.is))
