use Rattle.pod_keeper.proofs.Carried.{untouched_as}
use Rattle.pod_keeper.proofs.keeper.Keeper.checkpoint.Goals as goal

pub returns-else-epoch-lt-EPOCH_LIMIT-clause-pairs : goal.returns-else-epoch-lt-EPOCH_LIMIT-clause-pairs
returns-else-epoch-lt-EPOCH_LIMIT-clause-pairs g c = λ history place doubt kept sure long. untouched_as g.D.Disk.image g.D.Disk.moment g.D.Disk.left_since c.args.self.now g.D.Disk.only_now history place doubt kept sure
