use Rattle.pod_keeper.proofs.StepMoments.{moments_of_steps}
use Rattle.pod_keeper.proofs.laws.moments_are_of_steps.Goals as goal

pub returns : goal.returns
returns g c = moments_of_steps g.D.Disk.image g.D.Disk.moment g.D.Disk.left_since (g.C.Clock.may_give c.args.clock.now)
