use Rattle.std.proofs.Common.{refl}
use Rattle.request_history.proofs.Phases.{never_after_stop}
use Rattle.request_history.specs.Worlds.{event_of}
use Rattle.request_history.proofs.parts_and_events.Parts.step.Goals as goal

pub returns-then-self : goal.returns-then-self
returns-then-self c = (refl, never_after_stop c.args.self.now (event_of c.args.event.now) c.if-self.true)
