use Rattle.std.proofs.Common.{◌+◌, length, sym, ◌∙◌, subst, arith}
use Rattle.pod_io.specs.Visible.{IfVisible}
use Rattle.journal_log.specs.FirstGates.{IsFirstGate}
use Rattle.journal_log.specs.declared.new_journal.FirstGate.{FirstGate}
use Rattle.journal_log.proofs.OpenRuns.{of_each}
use Rattle.journal_log.proofs.RenewRuns.{parts_then, closed_then, reads_torn, reads_then_torn, length_first_closed, nothing_visible}
use Rattle.journal_log.proofs.new_journal.prepare.Goals as goal

pub returns-in_err-first_gate-clause-short : goal.returns-in_err-first_gate-clause-short
returns-in_err-first_gate-clause-short g c = λ b visible few.
    reads_torn g.D.Disk.image g.D.Disk.moment g.D.Disk.left_since _ _ (17 + length c.args.framed.now) (g.D.Disk.only_now _) c.first_gate.ensures.only_reads

pub write_record-requires : goal.write_record-requires
write_record-requires g c =
    let D = g.D.Disk.content c.first_gate.new.disk in
    of_each (g.D.Disk.image c.first_gate.new.disk) D _ c.in_ok-first_gate.ensures.durable (subst (λ (f : FirstGate). IfVisible D (IsFirstGate f)) c.in-Closed.is c.in_ok-first_gate.ensures.is)

pub close_and_write-requires : goal.close_and_write-requires
close_and_write-requires g c =
    let D = g.D.Disk.content c.first_gate.new.disk in
    of_each (g.D.Disk.image c.first_gate.new.disk) D _ c.in_ok-first_gate.ensures.durable (subst (λ (f : FirstGate). IfVisible D (IsFirstGate f)) c.in-Open.is c.in_ok-first_gate.ensures.is)

pub returns-in-Missing-clause-moments : goal.returns-in-Missing-clause-moments
returns-in-Missing-clause-moments g c = λ long.
    let D = g.D.Disk.content c.first_gate.new.disk in
    let few = subst (λ (f : FirstGate). IfVisible D (IsFirstGate f)) c.in-Missing.is c.in_ok-first_gate.ensures.is in
    nothing_visible g.D.Disk.image g.D.Disk.moment g.D.Disk.left_since _ _ _ (17 + length c.args.framed.now) (g.D.Disk.only_now _) c.first_gate.ensures.only_reads
    (λ c' now.
    let visible = c.in_ok-first_gate.ensures.durable c' now in
    omega (arith, few c' visible, long c' (sym c.in_ok-first_gate.ensures.content ∙ visible)))
    c.write_anew.ensures.torn

pub returns-in-Missing-clause-short : goal.returns-in-Missing-clause-short
returns-in-Missing-clause-short g c = λ b visible few.
    reads_then_torn g.D.Disk.image g.D.Disk.moment g.D.Disk.left_since _ _ _ (17 + length c.args.framed.now) (g.D.Disk.only_now _) c.first_gate.ensures.only_reads c.write_anew.ensures.torn

pub returns-in-Closed-clause-moments : goal.returns-in-Closed-clause-moments
returns-in-Closed-clause-moments g c = λ long. closed_then g.D.Disk.image g.D.Disk.moment g.D.Disk.left_since _ _ _ (g.D.Disk.only_now _) c.first_gate.ensures.only_reads c.write_record.ensures.moments

pub returns-in-Closed-clause-short : goal.returns-in-Closed-clause-short
returns-in-Closed-clause-short g c = λ b visible few.
    let D = g.D.Disk.content c.first_gate.new.disk in
    let closed = subst (λ (f : FirstGate). IfVisible D (IsFirstGate f)) c.in-Closed.is c.in_ok-first_gate.ensures.is b (c.in_ok-first_gate.ensures.content ∙ visible) in
    absurd (omega (arith, few, length_first_closed b closed))

pub returns-in-Open-clause-moments : goal.returns-in-Open-clause-moments
returns-in-Open-clause-moments g c = λ long. parts_then g.D.Disk.image g.D.Disk.moment g.D.Disk.left_since _ _ _ (g.D.Disk.only_now _) c.first_gate.ensures.only_reads c.close_and_write.ensures.moments

pub returns-in-Open-clause-short : goal.returns-in-Open-clause-short
returns-in-Open-clause-short g c = λ b visible few.
    let D = g.D.Disk.content c.first_gate.new.disk in
    let is_open = subst (λ (f : FirstGate). IfVisible D (IsFirstGate f)) c.in-Open.is c.in_ok-first_gate.ensures.is b (c.in_ok-first_gate.ensures.content ∙ visible) in
    absurd (omega (arith, few, is_open.0))
