use Rattle.std.proofs.Common.{sym}
use Rattle.request_history.proofs.Holding.{arrive_replaces, never_arrives}
use Rattle.request_history.proofs.parts_and_events.Parts.arrived.Goals as goal

pub returns-in_ok-next-in-Some : goal.returns-in_ok-next-in-Some
returns-in_ok-next-in-Some c = arrive_replaces c.events_stay.ensures c.args.self.now c.args.conn c.args.piece.now c.in-Some.from.now c.in_ok-next-in-Some.next c.requires.fine c.requires.runs (sym c.in-Some.ensures) c.in_ok-next-in-Some.ensures

pub returns-in-None : goal.returns-in-None
returns-in-None c = never_arrives c.args.self.now c.args.conn c.args.piece.now (sym c.in-None.ensures)
