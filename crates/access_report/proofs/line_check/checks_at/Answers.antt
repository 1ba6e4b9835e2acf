use Rattle.std.proofs.lemmas.Result.{IfOk-weaker}
use Rattle.pod_access.proofs.GoverningLists.{governing}
use Rattle.access_report.proofs.CheckedRules.{is_list, no_list, list_checks, other_list}
use Rattle.access_report.proofs.line_check.checks_at.Goals as goal

pub returns-then-is_list : goal.returns-then-is_list
returns-then-is_list g c =
    let pod = g.S.PodState.pod c.args.state.now in
    let e = c.effective-effective.result in
    let w = c.is_well_formed.ensures in
    let governs = c.effective-effective.ensures.governs in
    let acl = is_list c.args.line.now.basis.acl e.at.now c.in_ok-is_list.is_list c.in_ok-is_list.ensures (governing pod c.args.line.now.path e.at.now e.how w governs) c.if-is_list.true in
    IfOk-weaker c.grants_among.result _ _ (λ granted is. list_checks pod c.args.agent.now c.args.line.now e.at.now e.how w governs e.rules.now.list granted c.effective-effective.ensures.rules acl is) c.grants_among.ensures

pub returns-else-is_list : goal.returns-else-is_list
returns-else-is_list g c =
    let pod = g.S.PodState.pod c.args.state.now in
    let e = c.effective-effective.result in
    let w = c.is_well_formed.ensures in
    let governs = c.effective-effective.ensures.governs in
    other_list pod c.args.agent.now c.args.line.now e.at.now e.how w governs
    (no_list c.args.line.now.basis.acl e.at.now c.in_ok-is_list.is_list c.in_ok-is_list.ensures (governing pod c.args.line.now.path e.at.now e.how w governs) c.if-is_list.false)
