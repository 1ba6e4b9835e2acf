use Rattle.history_laws.proofs.Progress.{completes, completes_repaired, leaves_doubt}
use Rattle.history_laws.proofs.changes_may_complete.Goals as goal

pub returns-clause-completes : goal.returns-clause-completes
returns-clause-completes g c = λ asking old conn moment entry rest none change settles.
    completes (g.C.Clock.may_give c.args.clock.now) asking old conn moment entry rest change none settles

pub returns-clause-repaired : goal.returns-clause-repaired
returns-clause-repaired g c = λ asking old conn moment entry doubted rest doubt change settles.
    completes_repaired (g.C.Clock.may_give c.args.clock.now) asking old conn moment entry rest change doubted doubt settles

pub returns-clause-fails : goal.returns-clause-fails
returns-clause-fails g c = λ asking old conn moment entry rest none change settles.
    leaves_doubt (g.C.Clock.may_give c.args.clock.now) asking old conn moment entry rest change none settles
