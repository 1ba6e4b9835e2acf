use Rattle.conn_talk.proofs.WritesLemmas.{line_stopped}
use Rattle.conn_talk.proofs.one_request.write_answered.Goals as goal

-- the line wasn't written
pub returns-in-Err-write_line-clause-writes : goal.returns-in-Err-write_line-clause-writes
returns-in-Err-write_line-clause-writes g c =
    line_stopped c.in-Err-write_line.end c.args.answered.out _ (g.K.Output.taken c.args.output.now) (g.K.Output.taken c.write_out.new.output) (g.E.Sink.taken c.args.errors.now) (g.E.Sink.taken c.write_line.new.errors)
    c.in-Ok.ensures.writes.whole c.in-Err-write_line.ensures.writes
