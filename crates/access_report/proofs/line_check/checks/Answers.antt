use Rattle.std.proofs.Common.{◌∙◌, sym}
use Rattle.std.proofs.lemmas.Bool.{false≢true}
use Rattle.std.proofs.lemmas.Result.{IfOk-weaker}
use Rattle.access_report.proofs.CheckedRules.{checked_by, not_reported, reported_checks}
use Rattle.access_report.proofs.line_check.checks.Goals as goal

pub returns-then-is_acl-clause-exact : goal.returns-then-is_acl-clause-exact
returns-then-is_acl-clause-exact g c =
    not_reported (g.S.PodState.pod c.args.state.now) c.args.agent.now c.args.line.now (λ is. false≢true (sym is.no_list ∙ sym c.is_acl.ensures ∙ c.if-is_acl.true))

pub returns-then-has_row-clause-exact : goal.returns-then-has_row-clause-exact
returns-then-has_row-clause-exact g c =
    let pod = g.S.PodState.pod c.args.state.now in
    let line = c.args.line.now in
    IfOk-weaker c.checks_at.result _ _ (λ b h. reported_checks pod c.args.agent.now line (record { row = sym c.has_row.ensures ∙ c.if-has_row.true; no_list = sym c.is_acl.ensures ∙ c.if-is_acl.false }) b h) c.checks_at.ensures

pub returns-then-has_row-clause-granted : goal.returns-then-has_row-clause-granted
returns-then-has_row-clause-granted g c =
    IfOk-weaker c.checks_at.result _ _ (λ b h t. checked_by (g.S.PodState.pod c.args.state.now) c.args.agent.now c.args.line.now b h t) c.checks_at.ensures

pub returns-else-has_row-clause-exact : goal.returns-else-has_row-clause-exact
returns-else-has_row-clause-exact g c =
    not_reported (g.S.PodState.pod c.args.state.now) c.args.agent.now c.args.line.now (λ is. false≢true (sym c.if-has_row.false ∙ c.has_row.ensures ∙ is.row))
