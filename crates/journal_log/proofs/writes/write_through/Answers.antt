use Rattle.std.proofs.Common.{length}
use Rattle.journal_log.specs.Writes.{IsTornFrom}
use Rattle.journal_log.proofs.WriteRuns.{then_same}
use Rattle.journal_log.proofs.writes.write_through.Goals as goal

pub returns-clause-torn : goal.returns-clause-torn
returns-clause-torn g c = then_same g.D.Disk.image g.D.Disk.moment g.D.Disk.left_since _ _ _ (IsTornFrom (g.D.Disk.image c.args.disk.now) c.args.at (length c.args.bytes.now))
    (g.D.Disk.counts_now _) (g.D.Disk.only_now _) c.write.ensures.torn c.sync.ensures.passes
