use Rattle.std.proofs.Common.{rules}
use Rattle.pod_io.proofs.Extending.{nothing_written}
use Rattle.podctl_commands.proofs.PrintedLines.{has_some}
use Rattle.podctl_commands.proofs.audit_command.print_entry.Goals as goal

pub returns-in_err-entry-clause-writes : goal.returns-in_err-entry-clause-writes
returns-in_err-entry-clause-writes g c = λ line has. nothing_written c.from_residual.result (g.K.Sink.taken c.args.output.now) line (has_some c.args.body.now line has) (search rules)

pub returns-in_err-line-clause-writes : goal.returns-in_err-line-clause-writes
returns-in_err-line-clause-writes g c = λ line has. nothing_written c.from_residual-in_err-line.result (g.K.Sink.taken c.args.output.now) line (has_some c.args.body.now line has) (search rules)
