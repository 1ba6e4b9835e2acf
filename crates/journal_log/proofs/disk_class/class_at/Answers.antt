use Rattle.std.proofs.Common.{length, ap, arith}
use Rattle.journal_log.proofs.disk_class.class_at.Goals as goal

pub returns-then-size-clause-class : goal.returns-then-size-clause-class
returns-then-size-clause-class g c = λ b visible. (
  λ none. c.if-size-eq0.false (omega (arith, ap length none, c.in_ok-size.ensures.len b visible)),
  omega (arith, c.if-size.true, c.in_ok-size.ensures.len b visible),
)
