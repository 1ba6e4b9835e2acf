use Rattle.pod_live.proofs.TakeLemmas.{moments_of_changes}
use Rattle.pod_live.proofs.laws.moments_are_of_changes.Goals as goal

pub returns : goal.returns
returns g c = moments_of_changes g.D.Disk.image g.D.Disk.moment g.D.Disk.left_since
