use Rattle.journal_pair.proofs.Pairing.{append_doubt_pairs}
use Rattle.journal_pair.proofs.pair.Pair.append_in_doubt_stands.Goals as goal

pub returns : goal.returns
returns g c = append_doubt_pairs g.D.Disk.image g.D.Disk.moment g.D.Disk.left_since c.args._first.now c.args._second.now c.args.self.now
