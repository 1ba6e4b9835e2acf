use Rattle.std.proofs.Common.{◌≡◌, sym, ◌∙◌, length, arith}
use Rattle.journal_log.proofs.RenewRuns.{closed_of, not_closed_of}
use Rattle.journal_log.proofs.new_journal.first_gate.Goals as goal

pub returns-then-gate-eq0-clause-is : goal.returns-then-gate-eq0-clause-is
returns-then-gate-eq0-clause-is g c = λ b visible.
    let was = sym c.in_ok-read.ensures.content ∙ visible in
    let size : length b ≡ c.in_ok-synced_len.field-0 = c.in_ok-synced_len.ensures.len b (sym c.in_ok-synced_len.ensures.content ∙ was) in
    closed_of c.read.new.into b (c.in_ok-read.ensures.bytes b was) (omega (arith, size, c.if-branch-lt17.false)) c.if-gate-eq0.true

pub returns-else-gate-eq0-clause-is : goal.returns-else-gate-eq0-clause-is
returns-else-gate-eq0-clause-is g c = λ b visible.
    let was = sym c.in_ok-read.ensures.content ∙ visible in
    let size : length b ≡ c.in_ok-synced_len.field-0 = c.in_ok-synced_len.ensures.len b (sym c.in_ok-synced_len.ensures.content ∙ was) in
    (omega (arith, size, c.if-branch-lt17.false), not_closed_of c.read.new.into b (c.in_ok-read.ensures.bytes b was) c.if-gate-eq0.false)
