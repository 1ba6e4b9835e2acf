use Rattle.pod_keeper.proofs.Reopening.{after_crash}
use Rattle.pod_keeper.proofs.crash_openings.opens_after_a_crash.Goals as goal

pub returns : goal.returns
returns g c = after_crash g.D.Disk.content g.D.Disk.image g.D.Disk.moment g.D.Disk.left_since g.D.Disk.faults g.D.Disk.reads_image c.store_stands_once.ensures
