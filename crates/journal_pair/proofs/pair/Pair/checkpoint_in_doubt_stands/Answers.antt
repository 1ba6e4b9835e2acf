use Rattle.journal_pair.proofs.Pairing.{checkpoint_doubt_pairs}
use Rattle.journal_pair.proofs.pair.Pair.checkpoint_in_doubt_stands.Goals as goal

pub returns : goal.returns
returns g c = checkpoint_doubt_pairs g.D.Disk.image g.D.Disk.moment g.D.Disk.left_since c.args._first.now c.args._second.now c.args.self.now
