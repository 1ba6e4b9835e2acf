use Rattle.std.proofs.Common.{refl}
use Rattle.request_history.proofs.Phases.{never_stops, took_stopped}
use Rattle.request_history.proofs.parts_and_events.Parts.stop.Goals as goal

pub returns-then-not-allows : goal.returns-then-not-allows
returns-then-not-allows c = (refl, never_stops c.args.self.now c.args.image.now (c.allows.ensures.no c.if-not-allows.true))

pub returns : goal.returns
returns c = took_stopped c.args.self.now c.args.image.now c.requires.fine c.requires.runs (c.allows.ensures.yes c.if-not-allows.false)
