use Rattle.std.proofs.Common.{◌++◌, List, ℕ, OnOk, sym, subst}
use Rattle.pod_disk.specs.Disk.{LeavesOnly}
use Rattle.journal_log.specs.Frames.{framed_of, opened}
use Rattle.journal_log.specs.Gates.{IsOpening}
use Rattle.journal_log.specs.Heads.{encoded_head}
use Rattle.journal_log.specs.Images.{IsEither}
use Rattle.journal_log.specs.CleanJournal.{IsClean, IsInDoubt}
use Rattle.journal_log.specs.declared.fault.Side.{Side}
use Rattle.journal_pair.specs.Sides.{active_of}
use Rattle.journal_pair.proofs.on_side.repair_on.Goals as goal

pub returns-in-First-clause-moments : goal.returns-in-First-clause-moments
returns-in-First-clause-moments g c = λ bodies body. subst (λ (s : Side). IsInDoubt (g.D.Disk.image (active_of s c.args.first.now c.args.second.now)) c.args.journal.now bodies body
    → LeavesOnly g.D.Disk.moment g.D.Disk.left_since (active_of s c.args.first.now c.args.second.now) (active_of s c.repair.new.disk c.args.second.now)
    (IsEither c.args.journal.now.format c.args.journal.now.epoch bodies body)) (sym c.in-First.is) (c.repair.ensures.moments bodies body)

pub returns-in-First-clause-gates : goal.returns-in-First-clause-gates
returns-in-First-clause-gates g c = λ bodies body. subst (λ (s : Side). IsInDoubt (g.D.Disk.image (active_of s c.args.first.now c.args.second.now)) c.args.journal.now bodies body
    → LeavesOnly g.D.Disk.moment g.D.Disk.left_since (active_of s c.args.first.now c.args.second.now) (active_of s c.repair.new.disk c.args.second.now)
    (IsOpening (encoded_head c.args.journal.now.format c.args.journal.now.epoch ++ opened bodies) (framed_of body))) (sym c.in-First.is) (c.repair.ensures.gates bodies body)

pub returns-in-First-clause-repaired : goal.returns-in-First-clause-repaired
returns-in-First-clause-repaired g c = subst (λ (s : Side). OnOk c.repair.result ((bodies : List (List ℕ)) (body : List ℕ)
    → IsInDoubt (g.D.Disk.image (active_of s c.args.first.now c.args.second.now)) c.args.journal.now bodies body
    → IsClean (g.D.Disk.image (active_of s c.repair.new.disk c.args.second.now)) c.repair.new.self bodies)) (sym c.in-First.is) c.repair.ensures.repaired

pub returns-in-Second-clause-moments : goal.returns-in-Second-clause-moments
returns-in-Second-clause-moments g c = λ bodies body. subst (λ (s : Side). IsInDoubt (g.D.Disk.image (active_of s c.args.first.now c.args.second.now)) c.args.journal.now bodies body
    → LeavesOnly g.D.Disk.moment g.D.Disk.left_since (active_of s c.args.first.now c.args.second.now) (active_of s c.args.first.now c.repair-in-Second.new.disk)
    (IsEither c.args.journal.now.format c.args.journal.now.epoch bodies body)) (sym c.in-Second.is) (c.repair-in-Second.ensures.moments bodies body)

pub returns-in-Second-clause-gates : goal.returns-in-Second-clause-gates
returns-in-Second-clause-gates g c = λ bodies body. subst (λ (s : Side). IsInDoubt (g.D.Disk.image (active_of s c.args.first.now c.args.second.now)) c.args.journal.now bodies body
    → LeavesOnly g.D.Disk.moment g.D.Disk.left_since (active_of s c.args.first.now c.args.second.now) (active_of s c.args.first.now c.repair-in-Second.new.disk)
    (IsOpening (encoded_head c.args.journal.now.format c.args.journal.now.epoch ++ opened bodies) (framed_of body))) (sym c.in-Second.is) (c.repair-in-Second.ensures.gates bodies body)

pub returns-in-Second-clause-repaired : goal.returns-in-Second-clause-repaired
returns-in-Second-clause-repaired g c = subst (λ (s : Side). OnOk c.repair-in-Second.result ((bodies : List (List ℕ)) (body : List ℕ)
    → IsInDoubt (g.D.Disk.image (active_of s c.args.first.now c.args.second.now)) c.args.journal.now bodies body
    → IsClean (g.D.Disk.image (active_of s c.args.first.now c.repair-in-Second.new.disk)) c.repair-in-Second.new.self bodies)) (sym c.in-Second.is) c.repair-in-Second.ensures.repaired
