use Rattle.std.proofs.Common.{List, sym, subst, All}
use Rattle.std.specs.Prelude.{◌↔◌}
use Rattle.std.proofs.lemmas.Result.{IfOk-weaker}
use Rattle.pod_access.specs.PodGrants.{PodGrants}
use Rattle.access_report.specs.Checked.{Checks}
use Rattle.access_report.specs.Reports.{HasLine, IsReported}
use Rattle.access_report.specs.declared.line.Line.{Line}
use Rattle.access_report.proofs.ReportLines.{all_check, has_line}
use Rattle.access_report.proofs.reporting.report.Goals as goal

pub returns-clause-granted : goal.returns-clause-granted
returns-clause-granted g c =
    let pod = g.S.PodState.pod c.args.state.now in
    let agent = c.args.agent.now in
    IfOk-weaker c.lines_of_rows.result _ _
    (λ lines e path mode. subst (λ (ls : List Line). HasLine ls path mode ↔ (IsReported pod path × PodGrants pod agent path mode)) (sym e) (has_line pod agent path mode c.is_well_formed.ensures)) c.lines_of_rows.ensures

pub returns-clause-checked : goal.returns-clause-checked
returns-clause-checked g c =
    let pod = g.S.PodState.pod c.args.state.now in
    let agent = c.args.agent.now in
    IfOk-weaker c.lines_of_rows.result _ _ (λ lines e. subst (λ (ls : List Line). All (Checks pod agent) ls) (sym e) (all_check pod agent c.is_well_formed.ensures)) c.lines_of_rows.ensures
