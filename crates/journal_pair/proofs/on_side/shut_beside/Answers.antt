use Rattle.std.proofs.Common.{sym, subst}
use Rattle.pod_disk.specs.Disk.{EachImage, LeavesOnly}
use Rattle.journal_log.specs.Renewing.{IsNewJournal}
use Rattle.journal_log.specs.declared.fault.Side.{Side}
use Rattle.journal_pair.specs.Sides.{other_of}
use Rattle.journal_pair.proofs.on_side.shut_beside.Goals as goal

pub returns-in-First-clause-in_doubt : goal.returns-in-First-clause-in_doubt
returns-in-First-clause-in_doubt g c = λ epoch body. subst (λ (s : Side). EachImage (g.D.Disk.image (other_of s c.args.first.now c.args.second.now)) (IsNewJournal epoch body)
    → LeavesOnly g.D.Disk.moment g.D.Disk.left_since (other_of s c.args.first.now c.args.second.now) (other_of s c.args.first.now c.shut.new.disk) (IsNewJournal epoch body))
    (sym c.in-First.is) (c.shut.ensures.in_doubt epoch body)

pub returns-in-Second-clause-in_doubt : goal.returns-in-Second-clause-in_doubt
returns-in-Second-clause-in_doubt g c = λ epoch body. subst (λ (s : Side). EachImage (g.D.Disk.image (other_of s c.args.first.now c.args.second.now)) (IsNewJournal epoch body)
    → LeavesOnly g.D.Disk.moment g.D.Disk.left_since (other_of s c.args.first.now c.args.second.now) (other_of s c.shut-in-Second.new.disk c.args.second.now) (IsNewJournal epoch body))
    (sym c.in-Second.is) (c.shut-in-Second.ensures.in_doubt epoch body)
