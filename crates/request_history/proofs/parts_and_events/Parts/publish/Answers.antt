use Rattle.std.proofs.Common.{refl}
use Rattle.request_history.proofs.Phases.{never_publishes}
use Rattle.request_history.proofs.parts_and_events.Parts.publish.Goals as goal

pub returns-then-not-is_opened : goal.returns-then-not-is_opened
returns-then-not-is_opened c = (refl, never_publishes c.args.self.now (c.is_opened.ensures.no c.if-not-is_opened.true))

pub publish_opened-requires-clause-opened : goal.publish_opened-requires-clause-opened
publish_opened-requires-clause-opened c = c.is_opened.ensures.yes c.if-not-is_opened.false
