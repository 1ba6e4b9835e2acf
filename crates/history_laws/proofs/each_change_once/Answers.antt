use Rattle.history_laws.proofs.Acknowledged.{acknowledged, published_once}
use Rattle.history_laws.proofs.each_change_once.Goals as goal

pub returns-clause-acknowledged : goal.returns-clause-acknowledged
returns-clause-acknowledged g c = λ asking history numbers events new run place from to.
    acknowledged (g.C.Clock.may_give c.args.clock.now) asking history numbers events new run place from to

pub returns-clause-once : goal.returns-clause-once
returns-clause-once g c = λ asking history numbers events new run.
    published_once (g.C.Clock.may_give c.args.clock.now) asking history numbers events new run
