use Rattle.journal_pair.proofs.Pairing.{clean_pairs}
use Rattle.journal_pair.proofs.pair.Pair.clean_stands.Goals as goal

pub returns : goal.returns
returns g c = clean_pairs g.D.Disk.image g.D.Disk.moment g.D.Disk.left_since c.args._first.now c.args._second.now c.args.self.now
