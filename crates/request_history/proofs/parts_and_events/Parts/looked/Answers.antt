use Rattle.std.proofs.Common.{sym}
use Rattle.request_history.proofs.Looks.{no_connection_looks}
use Rattle.request_history.proofs.parts_and_events.Parts.looked.Goals as goal

pub looked_from-requires-clause-is_there : goal.looked_from-requires-clause-is_there
looked_from-requires-clause-is_there c = sym c.in-Some.ensures

pub returns-in-None : goal.returns-in-None
returns-in-None c = no_connection_looks c.args.self.now c.args.conn c.args.place c.args.moment.0 (sym c.in-None.ensures)
