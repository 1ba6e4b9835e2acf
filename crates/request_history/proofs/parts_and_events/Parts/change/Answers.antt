use Rattle.std.proofs.Common.{sym}
use Rattle.request_history.proofs.Takes.{no_connection_takes}
use Rattle.request_history.proofs.parts_and_events.Parts.change.Goals as goal

pub change_from-requires : goal.change_from-requires
change_from-requires c = sym c.in-Some.ensures

pub returns-in-None : goal.returns-in-None
returns-in-None c = no_connection_takes c.args.self.now c.args.conn c.args.moment.0 (sym c.in-None.ensures)
