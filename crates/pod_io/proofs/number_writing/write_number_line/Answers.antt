use Rattle.std.proofs.Common.{rules, ◌++◌, decimal, codes}
use Rattle.pod_io.proofs.Extending.{writes_part, writes_after}
use Rattle.pod_io.proofs.number_writing.write_number_line.Goals as goal

pub returns-in_err-write_number-clause-writes : goal.returns-in_err-write_number-clause-writes
returns-in_err-write_number-clause-writes g c =
    writes_part c.from_residual.result (g.K.Sink.taken c.args.output.now) (g.K.Sink.taken c.write_number.new.output) (c.args.text.now ++ decimal c.args.number) (codes "\n") (search rules) c.in_err-write_number.ensures.writes.part

pub returns-clause-writes : goal.returns-clause-writes
returns-clause-writes g c =
    writes_after c.write_all.result (g.K.Sink.taken c.args.output.now) (g.K.Sink.taken c.write_number.new.output) (g.K.Sink.taken c.write_all.new.output) (c.args.text.now ++ decimal c.args.number) (codes "\n") c.in_ok-write_number.ensures.writes.whole c.write_all.ensures.writes
