use Rattle.std.proofs.Common.{inl}
use Rattle.podctl_commands.proofs.EndFaults.{is_read_fault, is_write_fault, read_failed, rose}
use Rattle.podctl_commands.proofs.Running.{counted_after, told_after}
use Rattle.podctl_commands.proofs.follow_command.follow.Goals as goal

pub returns-clause-follows : goal.returns-clause-follows
returns-clause-follows g c =
    told_after c.take_input-end.result c.write_end_line.result (g.S.Source.rest c.args.input.now) (g.S.Source.rest c.take_input-end.new.input) (g.K.Sink.taken c.args.output.now) (g.K.Sink.taken c.take_input-end.new.output) c.write_end_line.ensures.end c.take_input-end.ensures.follows

pub returns-clause-counts : goal.returns-clause-counts
returns-clause-counts g c =
    counted_after c.take_input-end.result c.write_end_line.result (g.S.Source.reads c.args.input.now) (g.S.Source.reads c.take_input-end.new.input) (g.S.Source.ends c.args.input.now) (g.S.Source.ends c.take_input-end.new.input) c.write_end_line.ensures.end c.take_input-end.ensures.counts

pub returns-clause-counted : goal.returns-clause-counted
returns-clause-counted g c =
    let taken = c.take_input-end.ensures in
    let told = c.write_end_line.ensures in
    record {
      read_fault = λ is. inl (taken.read_fault (read_failed c.take_input-end.result c.write_end_line.result told.end (is_read_fault c.write_end_line.result is)));
      write_fault = λ is. rose (told.failed (is_write_fault c.write_end_line.result is)) taken.write_fault;
      input_faults = taken.input_faults;
      output_faults = taken.output_faults;
      error_faults = told.no_fewer;
    }
