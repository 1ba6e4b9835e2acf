use Rattle.std.proofs.Common.{◌+◌, ℕ, ◌∙◌, subst, arith}
use Rattle.journal_log.specs.Scanning.{IsByteAt}
use Rattle.journal_log.proofs.FrameReads.{is_record, is_last_record, is_no_record}
use Rattle.journal_log.proofs.frame_scan.record_at.Goals as goal

pub returns-then-gate-eq1-clause-is : goal.returns-then-gate-eq1-clause-is
returns-then-gate-eq1-clause-is g c = λ b visible.
    is_record b c.in_ok-body.body c.args.at c.args.gate c.args.len (c.requires.start b visible) (c.in_ok-body.ensures.body b visible) c.in_ok-body.ensures.len c.if-gate-eq1.true
    (omega (arith, c.requires.within, (c.requires.shown b visible).size))

pub returns-then-next-ne0-clause-is : goal.returns-then-next-ne0-clause-is
returns-then-next-ne0-clause-is g c = λ b visible.
    is_no_record b c.in_ok-body.body c.args.at c.args.gate c.args.len (c.requires.start b visible) (c.in_ok-body.ensures.body b visible) c.in_ok-body.ensures.len c.in_ok-next.next
    c.requires.is_open c.if-gate-eq1.false c.if-next-ne0.true (omega (arith, c.in_ok-body.ensures.len, c.requires.within, c.requires.small))
    (c.in_ok-next.ensures.byte b (c.in_ok-body.ensures.kept.content ∙ visible))

pub returns-clause-is : goal.returns-clause-is
returns-clause-is g c = λ b visible.
    is_last_record b c.in_ok-body.body c.args.at c.args.gate c.args.len (c.requires.start b visible) (c.in_ok-body.ensures.body b visible) c.in_ok-body.ensures.len
    (subst (λ (n : ℕ). IsByteAt (c.args.at + 9 + c.args.len) b n) c.if-next-ne0.false (c.in_ok-next.ensures.byte b (c.in_ok-body.ensures.kept.content ∙ visible)))
