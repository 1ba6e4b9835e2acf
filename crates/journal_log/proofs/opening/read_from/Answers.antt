use Rattle.std.proofs.Common.{inl, refl, ap, subst, length, Option, arith}
use Rattle.std.specs.Option.{IfNone}
use Rattle.pod_io.specs.Visible.{IfVisible}
use Rattle.journal_log.specs.Heads.{NoHead}
use Rattle.journal_log.specs.declared.head.Head.{Head}
use Rattle.journal_log.proofs.opening.read_from.Goals as goal

pub returns-clause-cause : goal.returns-clause-cause
returns-clause-cause g c = (
  refl,
  λ b visible. inl (record {
    some = λ none. c.if-size-eq0.false (omega (arith, c.requires.size b visible, ap length none));
    wrong = subst (λ (o : Option Head). IfNone o (IfVisible (g.D.Disk.content c.args.disk.now) NoHead)) c.in-None.is c.in_ok-head.ensures.none b visible;
    place = refl;
  }),
)
