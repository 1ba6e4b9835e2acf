use Rattle.std.proofs.Common.{suc}
use Rattle.pod_core.specs.World as world
use Rattle.request_history.proofs.Holding.{replaces_within}
use Rattle.request_history.proofs.parts_and_events.Parts.look.Goals as goal

pub replace-requires-clause-within : goal.replace-requires-clause-within
replace-requires-clause-within c = replaces_within c.args.self.now (world.look (suc c.args.conn) c.args.place c.args.moment.0) c.args.conn c.in-Ok.next c.in-Ok.ensures

pub returns-in-Ok : goal.returns-in-Ok
returns-in-Ok c = c.replace.ensures (world.look (suc c.args.conn) c.args.place c.args.moment.0) c.in-Ok.ensures
