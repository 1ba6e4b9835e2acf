use Rattle.std.proofs.Common.{sym, subst}
use Rattle.pod_disk.specs.Disk.{LeavesOnly}
use Rattle.journal_log.specs.Images.{IsEither}
use Rattle.journal_log.specs.CleanJournal.{IsClean, IsWhileAppended}
use Rattle.journal_log.specs.declared.fault.Side.{Side}
use Rattle.journal_pair.specs.Sides.{active_of}
use Rattle.journal_pair.proofs.on_side.append_on.Goals as goal

pub returns-in-First-clause-moments : goal.returns-in-First-clause-moments
returns-in-First-clause-moments g c = λ bodies. subst (λ (s : Side). IsClean (g.D.Disk.image (active_of s c.args.first.now c.args.second.now)) c.args.journal.now bodies
    → LeavesOnly g.D.Disk.moment g.D.Disk.left_since (active_of s c.args.first.now c.args.second.now) (active_of s c.append.new.disk c.args.second.now)
    (IsEither c.args.journal.now.format c.args.journal.now.epoch bodies c.args.framed.now)) (sym c.in-First.is) (c.append.ensures.moments bodies)

pub returns-in-First-clause-gates : goal.returns-in-First-clause-gates
returns-in-First-clause-gates g c = λ bodies. subst (λ (s : Side). IsClean (g.D.Disk.image (active_of s c.args.first.now c.args.second.now)) c.args.journal.now bodies
    → LeavesOnly g.D.Disk.moment g.D.Disk.left_since (active_of s c.args.first.now c.args.second.now) (active_of s c.append.new.disk c.args.second.now)
    (IsWhileAppended c.args.journal.now.format c.args.journal.now.epoch bodies c.args.framed.now)) (sym c.in-First.is) (c.append.ensures.gates bodies)

pub returns-in-Second-clause-moments : goal.returns-in-Second-clause-moments
returns-in-Second-clause-moments g c = λ bodies. subst (λ (s : Side). IsClean (g.D.Disk.image (active_of s c.args.first.now c.args.second.now)) c.args.journal.now bodies
    → LeavesOnly g.D.Disk.moment g.D.Disk.left_since (active_of s c.args.first.now c.args.second.now) (active_of s c.args.first.now c.append-in-Second.new.disk)
    (IsEither c.args.journal.now.format c.args.journal.now.epoch bodies c.args.framed.now)) (sym c.in-Second.is) (c.append-in-Second.ensures.moments bodies)

pub returns-in-Second-clause-gates : goal.returns-in-Second-clause-gates
returns-in-Second-clause-gates g c = λ bodies. subst (λ (s : Side). IsClean (g.D.Disk.image (active_of s c.args.first.now c.args.second.now)) c.args.journal.now bodies
    → LeavesOnly g.D.Disk.moment g.D.Disk.left_since (active_of s c.args.first.now c.args.second.now) (active_of s c.args.first.now c.append-in-Second.new.disk)
    (IsWhileAppended c.args.journal.now.format c.args.journal.now.epoch bodies c.args.framed.now)) (sym c.in-Second.is) (c.append-in-Second.ensures.gates bodies)
