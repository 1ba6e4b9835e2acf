use Rattle.journal_log.proofs.RenewRuns.{closing_run, closed_and_written}
use Rattle.journal_log.proofs.new_journal.close_and_write.Goals as goal

pub returns-in_err-close-clause-moments : goal.returns-in_err-close-clause-moments
returns-in_err-close-clause-moments g c = closing_run g.D.Disk.image g.D.Disk.moment g.D.Disk.left_since _ _ c.requires c.close.ensures.moments

pub returns-clause-moments : goal.returns-clause-moments
returns-clause-moments g c = closed_and_written g.D.Disk.image g.D.Disk.moment g.D.Disk.left_since _ _ _
    (closing_run g.D.Disk.image g.D.Disk.moment g.D.Disk.left_since _ _ c.requires c.close.ensures.moments) c.write_record.ensures.moments
