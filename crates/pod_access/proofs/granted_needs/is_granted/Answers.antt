use Rattle.std.proofs.Common.{Bool, Option, Some, ◌∙◌, sym, subst}
use Rattle.std.specs.Prelude.{IsTrue, ◌↔◌}
use Rattle.pod_rows.specs.Access.{Governs, governed}
use Rattle.pod_access.specs.PodGrants.{GrantsBy, list_graph}
use Rattle.pod_access.proofs.BasisLemmas.{has_basis}
use Rattle.pod_access.proofs.GraphGrants.{rules_of_graph, uri_governs}
use Rattle.pod_access.proofs.granted_needs.is_granted.Goals as goal

pub returns-clause-basis : goal.returns-clause-basis
returns-clause-basis g c =
    let e = c.effective-effective.result in
    c.is_some.ensures ∙ has_basis (g.S.PodState.pod c.args.state.now) c.args.agent.now c.args.need.now e.at.now e.how e.rules.now.list c.ground_in.result
    c.effective-effective.ensures.governs c.effective-effective.ensures.rules c.ground_in.ensures.ground c.ground_in.ensures.rule c.ground_in.ensures.subject

pub returns-clause-grants : goal.returns-clause-grants
returns-clause-grants g c =
    let pod = g.S.PodState.pod c.args.state.now in
    let e = c.effective-effective.result in
    let by_graph = c.ground_in.ensures.grants pod.base (list_graph pod e.at.now) (c.effective-effective.ensures.rules ∙ rules_of_graph pod e.at.now)
    (uri_governs pod c.args.need.now.path (governed e.at.now e.how) c.is_well_formed.ensures c.effective-effective.ensures.governs) in
    subst (λ (o : Option Governs). IsTrue c.is_some.result ↔ GrantsBy pod c.args.agent.now c.args.need.now.mode o) (sym c.effective-effective.ensures.governs)
    (subst (λ (b : Bool). IsTrue b ↔ GrantsBy pod c.args.agent.now c.args.need.now.mode (Some (governed e.at.now e.how))) (sym c.is_some.ensures) by_graph)
