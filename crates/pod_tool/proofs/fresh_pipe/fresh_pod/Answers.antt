use Rattle.std.proofs.Common.{refl}
use Rattle.pod_tool.proofs.FreshLemmas.{fresh_stands}
use Rattle.pod_tool.proofs.fresh_pipe.fresh_pod.Goals as goal

pub returns : goal.returns
returns c = (fresh_stands c.args.owner.now c.args.moment.0 _ _ _ c.in_ok-state.ensures.pod c.in_ok-state.ensures.next refl, refl)
