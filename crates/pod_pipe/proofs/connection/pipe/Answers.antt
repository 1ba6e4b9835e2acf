use Rattle.std.proofs.Common.{inl, arith}
use Rattle.pod_pipe.proofs.CountedLemmas.{is_read_fault, is_write_fault, read_failed, write_failed}
use Rattle.pod_pipe.proofs.LongerSessions.{stops_over, writes_session}
use Rattle.pod_pipe.proofs.ServingLemmas.{comes_to, counts_come_to, tells_since}
use Rattle.pod_pipe.proofs.connection.pipe.Goals as goal

pub returns-clause-pipes : goal.returns-clause-pipes
returns-clause-pipes g c = λ history doubt held.
    let pipes = comes_to _ _ _ _ _ c.serve-end.result c.write_end_line-end.result _ _ _ _ (g.E.Sink.taken c.args.errors.now) (g.E.Sink.taken c.serve-end.new.errors) c.write_end_line-end.ensures.end (c.serve-end.ensures.pipes history doubt held) in
    record {
      trailed = g.E.Sink.taken c.serve-end.new.errors;
      pipes = pipes;
      tells = tells_since c.write_end_line-end.result (g.E.Sink.taken c.serve-end.new.errors) (g.E.Sink.taken c.write_end_line-end.new.errors) (g.E.Sink.faults c.args.errors.now) (g.E.Sink.faults c.serve-end.new.errors) (g.E.Sink.faults c.write_end_line-end.new.errors) c.serve-end.ensures.error_faults c.write_end_line-end.ensures.told;
      over_all = stops_over _ _ _ _ _ c.write_end_line-end.result _ _ _ _ _ _ pipes;
    }

pub returns-clause-session : goal.returns-clause-session
returns-clause-session g c = λ history doubt held. writes_session _ _ _ _ _ c.serve-end.result _ _ _ _ _ _ (c.serve-end.ensures.pipes history doubt held)

pub returns-clause-counts : goal.returns-clause-counts
returns-clause-counts g c = counts_come_to c.serve-end.result _ _ _ _ _ c.write_end_line-end.ensures.end c.serve-end.ensures.counts

pub returns-clause-counted : goal.returns-clause-counted
returns-clause-counted g c =
    let served = c.serve-end.ensures in
    let told = c.write_end_line-end.ensures in
    record {
      read_fault = λ is. inl (served.read_fault (read_failed c.serve-end.result c.write_end_line-end.result told.end (is_read_fault c.write_end_line-end.result is)));
      write_fault = λ is. write_failed c.serve-end.result c.write_end_line-end.result _ _ _ (g.E.Sink.faults c.serve-end.new.errors) _ told.failed served.write_fault served.error_faults told.no_fewer (is_write_fault c.write_end_line-end.result is);
      input_faults = served.input_faults;
      output_faults = served.output_faults;
      error_faults = omega (arith, served.error_faults, told.no_fewer);
    }
