use Rattle.std.proofs.Common.{None}
use Rattle.pod_pipe.proofs.CountedLemmas.{counted_at}
use Rattle.pod_tool.specs.Fresh.{fresh_history}
use Rattle.pod_tool.proofs.FreshLemmas.{runs_fresh, unserved_run}
use Rattle.pod_tool.proofs.fresh_pipe.pipe_fresh.Goals as goal

-- no memory was left for the pod
pub returns-in-Err-clause-runs : goal.returns-in-Err-clause-runs
returns-in-Err-clause-runs g c =
    unserved_run (g.C.Clock.may_give c.args.clock.now) c.args.owner.now c.args.trail c.clock_moment-moment.result.0 c.clock_moment-moment.ensures (g.S.Source.rest c.args.input.now) (g.K.Sink.taken c.args.output.now)
    (g.E.Sink.taken c.args.errors.now) (g.S.Source.faults c.args.input.now) (g.K.Sink.faults c.args.output.now) (g.E.Sink.faults c.args.errors.now) (g.S.Source.reads c.args.input.now) (g.S.Source.ends c.args.input.now) c.status-in-Err.result.0 c.status-in-Err.ensures

pub pipe-piped-requires : goal.pipe-piped-requires
pipe-piped-requires g c = (fresh_history c.args.owner.now c.clock_moment-moment.result.0, None, c.in-Ok.ensures.pod)

pub returns-in-Ok-clause-runs : goal.returns-in-Ok-clause-runs
returns-in-Ok-clause-runs g c =
    let history = fresh_history c.args.owner.now c.clock_moment-moment.result.0 in
    runs_fresh (g.C.Clock.may_give c.args.clock.now) c.args.owner.now c.args.trail _ c.status.result.0 c.clock_moment-moment.result.0 c.clock_moment-moment.ensures c.in-Ok.start.1 c.in-Ok.ensures.owner c.in-Ok.ensures.trail
    c.pipe-piped.result.end c.status.ensures c.in-Ok.start.0 c.pipe-piped.result.holder (c.pipe-piped.ensures.pipes history None c.in-Ok.ensures.pod) (c.pipe-piped.ensures.session history None c.in-Ok.ensures.pod) c.pipe-piped.ensures.counts

pub returns-in-Ok-clause-counted : goal.returns-in-Ok-clause-counted
returns-in-Ok-clause-counted g c = counted_at _ _ _ _ c.status.ensures c.pipe-piped.ensures.counted
