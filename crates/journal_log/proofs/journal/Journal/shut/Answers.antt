use Rattle.journal_log.specs.Frames.{framed_of}
use Rattle.journal_log.specs.Heads.{encoded_head}
use Rattle.journal_log.proofs.Splits.{length_head}
use Rattle.journal_log.proofs.AppendRuns.{opening_run}
use Rattle.journal_log.proofs.journal.Journal.shut.Goals as goal

pub returns-in_err-close-clause-in_doubt : goal.returns-in_err-close-clause-in_doubt
returns-in_err-close-clause-in_doubt g c = λ epoch body new.
    (opening_run g.D.Disk.image g.D.Disk.moment g.D.Disk.left_since _ _ (encoded_head 2 epoch) (framed_of body) 16 (g.D.Disk.counts_now _) (length_head 2 epoch) c.close.ensures.moments new).0

pub returns-clause-in_doubt : goal.returns-clause-in_doubt
returns-clause-in_doubt g c = λ epoch body new.
    (opening_run g.D.Disk.image g.D.Disk.moment g.D.Disk.left_since _ _ (encoded_head 2 epoch) (framed_of body) 16 (g.D.Disk.counts_now _) (length_head 2 epoch) c.close.ensures.moments new).0
