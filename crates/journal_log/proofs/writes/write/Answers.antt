use Rattle.journal_log.proofs.WriteRuns.{torn_call}
use Rattle.journal_log.proofs.writes.write.Goals as goal

pub returns-clause-torn : goal.returns-clause-torn
returns-clause-torn g c = torn_call g.D.Disk.image g.D.Disk.moment g.D.Disk.left_since _ _ _ _ (g.D.Disk.only_now _) c.write_at.ensures.passes
