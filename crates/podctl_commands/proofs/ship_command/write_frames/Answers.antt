use Rattle.std.proofs.Common.{rules, arith, length}
use Rattle.pod_io.proofs.Extending.{nothing_added}
use Rattle.podctl_commands.proofs.ShipLemmas.{all_written, cut_short, one_more}
use Rattle.podctl_commands.proofs.ship_command.write_frames.Goals as goal

pub loop-record-init : goal.loop-record-init
loop-record-init g c = record { written = nothing_added (g.K.Sink.taken c.args.output.now); counts = omega arith }

pub loop-record-preserved : goal.loop-record-preserved
loop-record-preserved g c = record {
  written = one_more c.args.records.now c.loop-record.record-index c.record-item.result c.as_slice.result.now c.loop-record-test.true c.record-item.is c.as_slice.ensures (g.K.Sink.taken c.args.output.now) (g.K.Sink.taken c.loop-record.output)
      c.loop-record.invariant.written (g.K.Sink.taken c.write_frame.new.output) c.in_ok-write_frame.ensures.writes.whole;
  counts = omega (arith, c.loop-record.invariant.counts, c.in_ok-write_frame.ensures.faults.no_fewer);
}

pub returns-in_err-write_frame-clause-writes : goal.returns-in_err-write_frame-clause-writes
returns-in_err-write_frame-clause-writes g c =
    cut_short c.args.records.now c.loop-record.record-index c.record-item.result c.as_slice.result.now c.loop-record-test.true c.record-item.is c.as_slice.ensures (g.K.Sink.taken c.args.output.now) (g.K.Sink.taken c.loop-record.output)
    c.loop-record.invariant.written c.from_residual.result (g.K.Sink.taken c.write_frame.new.output) (search rules) c.in_err-write_frame.ensures.writes.part

pub returns-clause-writes : goal.returns-clause-writes
returns-clause-writes g c = record {
  whole = all_written c.args.records.now c.loop-record.record-index (g.K.Sink.taken c.args.output.now) (g.K.Sink.taken c.loop-record.output) (omega (arith, c.loop-record-test.false)) c.loop-record.invariant.written;
  part = tt;
}
