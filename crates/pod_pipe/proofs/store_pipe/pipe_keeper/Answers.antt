use Rattle.pod_pipe.proofs.CountedLemmas.{counted_at}
use Rattle.pod_pipe.proofs.RunLemmas.{runs_piped}
use Rattle.pod_pipe.proofs.store_pipe.pipe_keeper.Goals as goal

pub returns-in-Ok-clause-runs : goal.returns-in-Ok-clause-runs
returns-in-Ok-clause-runs g c =
    runs_piped g.D.Disk.image g.D.Disk.moment g.D.Disk.left_since g.D.Disk.faults (g.C.Clock.may_give c.args.clock.now) c.args.by_tokens c.args.trail (record { keeper = c.args.keeper; out_of_memory = 0 }) c.pipe-piped.result.holder _ _ c.status.result.0
    c.in-Ok.agents c.pipe-piped.result.end c.in-Ok.ensures.asked c.agents_of.ensures.reads c.status.ensures c.pipe-piped.ensures.pipes c.pipe-piped.ensures.session c.pipe-piped.ensures.counts

pub returns-in-Ok-clause-counted : goal.returns-in-Ok-clause-counted
returns-in-Ok-clause-counted g c = counted_at _ _ _ _ c.status.ensures c.pipe-piped.ensures.counted
