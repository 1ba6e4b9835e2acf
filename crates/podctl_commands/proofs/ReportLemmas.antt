-- The lines of a report are what is granted.
use Rattle.access_report.proofs.ReportLines.{all_check, has_line}
use Rattle.podctl_commands.specs.Lines.{ReportsCheck, ReportsGrants}

pub reports_grants : ReportsGrants
reports_grants pod agent path mode w = has_line pod agent path mode w

pub reports_check : ReportsCheck
reports_check pod agent w = all_check pod agent w
