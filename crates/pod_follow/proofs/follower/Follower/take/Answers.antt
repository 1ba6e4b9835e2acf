use Rattle.std.proofs.Common.{refl}
use Rattle.pod_follow.proofs.follower.Follower.take.Goals as goal

pub returns-in-None-clause-took : goal.returns-in-None-clause-took
returns-in-None-clause-took c = (c.in_ok-entry.ensures.none c.in-None.is, refl)
