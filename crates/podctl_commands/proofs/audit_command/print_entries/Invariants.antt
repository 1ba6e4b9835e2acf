use Rattle.std.proofs.Common.{◌≤◌, ℕ, List}
use Rattle.podctl_commands.specs.Records.{HaveLines}
use Rattle.podctl_commands.proofs.PrintedLines.{Split}
use Rattle.podctl_commands.proofs.audit_command.print_entries.Given as goal

-- the lines so far are printed
abbrev pub invariant-loop-record : goal.invariant-loop-record
invariant-loop-record g l = record {
  split : (text : List ℕ) → HaveLines l.fn.records text → Split l.fn.records l.record-index text (g.K.Sink.taken l.fn.output) (g.K.Sink.taken l.output);
  counts : g.K.Sink.faults l.fn.output ≤ g.K.Sink.faults l.output;
}
