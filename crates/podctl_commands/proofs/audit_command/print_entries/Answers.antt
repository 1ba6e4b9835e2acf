use Rattle.std.proofs.Common.{rules, arith}
use Rattle.podctl_commands.proofs.PrintedLines.{line_here, split_more, split_fails}
use Rattle.podctl_commands.proofs.audit_command.print_entries.Goals as goal

pub print_entry-requires : goal.print_entry-requires
print_entry-requires g c =
    let split = c.loop-record.invariant.split c.requires.0 c.requires.1 in
    line_here c.args.records.now c.loop-record.record-index c.record-item.result c.as_slice.result.now c.loop-record-test.true c.record-item.is c.as_slice.ensures c.requires.0 (g.K.Sink.taken c.args.output.now) (g.K.Sink.taken c.loop-record.output) split

pub loop-record-preserved : goal.loop-record-preserved
loop-record-preserved g c = record {
  split = λ text has. split_more c.args.records.now c.loop-record.record-index c.record-item.result c.as_slice.result.now c.loop-record-test.true c.record-item.is c.as_slice.ensures text (g.K.Sink.taken c.args.output.now) (g.K.Sink.taken c.loop-record.output)
      (c.loop-record.invariant.split text has) (g.K.Sink.taken c.print_entry.new.output) (λ line is. (c.in_ok-print_entry.ensures.writes line is).whole);
  counts = omega (arith, c.loop-record.invariant.counts, c.in_ok-print_entry.ensures.counts);
}

pub returns-in_err-print_entry-clause-writes : goal.returns-in_err-print_entry-clause-writes
returns-in_err-print_entry-clause-writes g c = λ text has.
    split_fails c.args.records.now c.loop-record.record-index c.record-item.result c.as_slice.result.now c.loop-record-test.true c.record-item.is c.as_slice.ensures text (g.K.Sink.taken c.args.output.now) (g.K.Sink.taken c.loop-record.output)
    (c.loop-record.invariant.split text has) c.from_residual.result (g.K.Sink.taken c.print_entry.new.output) (search rules) (λ line is. (c.in_err-print_entry.ensures.writes line is).part)
