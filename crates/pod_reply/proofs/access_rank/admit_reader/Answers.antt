use Rattle.std.proofs.Common.{[], true, false, Err, sym, ap, ◌∙◌}
use Rattle.pod_base.specs.Listed.{listed}
use Rattle.pod_reply.proofs.RankLemmas.{reader_granted}
use Rattle.pod_reply.proofs.access_rank.admit_reader.Goals as goal

pub returns-then-are_granted : goal.returns-then-are_granted
returns-then-are_granted g c =
    reader_granted (g.S.PodState.pod c.args.state.now) c.args.agent.now c.args.shape.now c.new.result true
    (cc (c.are_granted.ensures, c.as_slice.ensures, c.in_ok-needs.ensures, c.if-are_granted.true))

pub returns : goal.returns
returns g c =
    reader_granted (g.S.PodState.pod c.args.state.now) c.args.agent.now c.args.shape.now (listed [] 0) false
    (cc (c.are_granted.ensures, c.as_slice.ensures, c.in_ok-needs.ensures, c.if-are_granted.false))
    ∙ ap Err (sym c.in_ok-refuse_access.ensures)
