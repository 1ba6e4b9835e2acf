use Rattle.pod_keeper.proofs.Standing.{disks_stand}
use Rattle.pod_keeper.proofs.keeper.Keeper.crash_images_stand.Goals as goal

pub returns : goal.returns
returns g c = λ history place doubt kept sure.
    disks_stand g.D.Disk.image g.D.Disk.moment g.D.Disk.left_since c.args.self.now history place kept.bodies kept.stored doubt kept.disks sure
