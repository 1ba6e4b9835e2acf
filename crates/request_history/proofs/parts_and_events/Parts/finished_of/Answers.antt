use Rattle.request_history.proofs.Phases.{held_next, finished_by}
use Rattle.request_history.proofs.parts_and_events.Parts.finished_of.Goals as goal

pub answered-requires : goal.answered-requires
answered-requires c = held_next c.args.self.now c.requires.fine c.args.holder.now c.requires.held c.conn-at.result c.in-Some.from.now c.conn-at.ensures c.in-Some.ensures

pub returns-in_ok-connection-in-Some : goal.returns-in_ok-connection-in-Some
returns-in_ok-connection-in-Some c = finished_by c.args.self.now c.requires.fine c.args.holder.now c.requires.held c.conn-at.result c.in-Some.from.now c.conn-at.ensures c.in-Some.ensures c.text.result.now c.text.ensures
    c.switches.result c.switches.ensures c.end-end.result c.end-end.ensures c.in_ok-connection-in-Some.connection c.in_ok-connection-in-Some.ensures
