use Rattle.std.proofs.Common.{rules, decimal, subst}
use Rattle.pod_io.specs.Writing.{Writes}
use Rattle.pod_io.proofs.Extending.{writes_part, writes_after}
use Rattle.pod_io.proofs.number_writing.write_number.Goals as goal

pub returns-in_err-write_all-clause-writes : goal.returns-in_err-write_all-clause-writes
returns-in_err-write_all-clause-writes g c =
    writes_part c.from_residual.result (g.K.Sink.taken c.args.output.now) (g.K.Sink.taken c.write_all.new.output) c.args.text.now (decimal c.args.number) (search rules) c.in_err-write_all.ensures.writes.part

pub returns-clause-writes : goal.returns-clause-writes
returns-clause-writes g c =
    writes_after c.write_all-2.result (g.K.Sink.taken c.args.output.now) (g.K.Sink.taken c.write_all.new.output) (g.K.Sink.taken c.write_all-2.new.output) c.args.text.now (decimal c.args.number) c.in_ok-write_all.ensures.writes.whole
    (subst (λ text. Writes c.write_all-2.result text (g.K.Sink.taken c.write_all.new.output) (g.K.Sink.taken c.write_all-2.new.output)) (search rules) c.write_all-2.ensures.writes)
