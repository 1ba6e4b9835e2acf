use Rattle.history_laws.proofs.AlikeSessions.{items_isolated, sessions_isolated}
use Rattle.history_laws.proofs.isolated_sessions.sessions_are_isolated.Goals as goal

pub returns : goal.returns
returns g c =
    let items = items_isolated (g.C.Clock.may_give c.args.clock.now) c.one_reply.ensures c.applies.ensures.applies c.isolation_law.ensures.replies in
    record { sessions = sessions_isolated (g.C.Clock.may_give c.args.clock.now) items; items = items }
