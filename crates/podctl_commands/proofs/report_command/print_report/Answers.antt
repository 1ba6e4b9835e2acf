use Rattle.std.proofs.Common.{subst, sym, ◌∙◌}
use Rattle.podctl_commands.specs.Endings.{IsReportedSo}
use Rattle.podctl_commands.proofs.EndedRuns.{written_fails, written_so}
use Rattle.podctl_commands.proofs.report_command.print_report.Goals as goal
