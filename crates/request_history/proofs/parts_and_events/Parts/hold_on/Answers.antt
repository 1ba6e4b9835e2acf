use Rattle.std.proofs.Common.{refl, sym, subst}
use Rattle.pod_core.specs.World.{Event}
use Rattle.request_history.proofs.Phases.{never_steps}
use Rattle.request_history.proofs.parts_and_events.Parts.hold_on.Goals as goal

pub returns-then-not-may : goal.returns-then-not-may
returns-then-not-may c = (refl, never_steps c.args.self.now c.args.step c.args.ok (c.may.ensures.no c.if-not-may.true))
