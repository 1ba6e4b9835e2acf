use Rattle.pod_keeper.specs.Kept.{entries_in}
use Rattle.pod_keeper.proofs.Reopening.{in_turn}
use Rattle.pod_keeper.proofs.crash_openings.opens_after.Goals as goal

pub returns : goal.returns
returns g c = λ history place doubt kept sure.
    in_turn g.D.Disk.content g.D.Disk.image g.D.Disk.moment g.D.Disk.left_since g.D.Disk.faults g.D.Disk.reads_image c.store_stands_once.ensures _ _ history (entries_in doubt)
    (c.crash_images_stand.ensures history place doubt kept sure)
