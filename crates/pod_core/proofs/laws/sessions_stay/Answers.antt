use Rattle.pod_core.proofs.LongerSessions.{session_grows}
use Rattle.pod_core.proofs.laws.sessions_stay.Goals as goal

pub returns : goal.returns
returns g c = session_grows (g.C.Clock.may_give c.args.clock.now)
