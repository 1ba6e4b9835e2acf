use Rattle.podctl_commands.proofs.ReportLemmas.{reports_grants, reports_check}
use Rattle.podctl_commands.proofs.report_laws.reports_are_what_is_granted.Goals as goal

pub returns-clause-grants : goal.returns-clause-grants
returns-clause-grants c = reports_grants

pub returns-clause-checks : goal.returns-clause-checks
returns-clause-checks c = reports_check
