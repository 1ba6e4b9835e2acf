use Rattle.history_laws.proofs.SameItems.{one_list}
use Rattle.history_laws.proofs.Sessions.{alike_histories, one_history}
use Rattle.history_laws.proofs.one_session.Goals as goal

pub returns-clause-items : goal.returns-clause-items
returns-clause-items g c = λ conn begun items others h k asks.
    one_list (g.C.Clock.may_give c.args.clock.now) conn c.one_reply.ensures begun items others h k asks

pub returns-clause-sessions : goal.returns-clause-sessions
returns-clause-sessions g c = λ asking events begun session other h k same.
    one_history (g.C.Clock.may_give c.args.clock.now) asking events c.one_reply.ensures session other same begun h k

pub returns-clause-alike : goal.returns-clause-alike
returns-clause-alike g c = λ asking events agent begun elsewhere session other h k same is_history mine alike hidden.
    alike_histories (g.C.Clock.may_give c.args.clock.now) asking events c.one_reply.ensures session other same
    c.sessions_are_isolated.ensures.items agent begun elsewhere h k is_history mine alike hidden
