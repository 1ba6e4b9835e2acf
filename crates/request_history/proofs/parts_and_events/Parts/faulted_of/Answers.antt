use Rattle.request_history.proofs.Phases.{held_next, faulted_by}
use Rattle.request_history.proofs.parts_and_events.Parts.faulted_of.Goals as goal

pub answered-requires : goal.answered-requires
answered-requires c = held_next c.args.self.now c.requires.fine c.args.holder.now c.requires.held c.conn-at.result c.in-Some.from.now c.conn-at.ensures c.in-Some.ensures

pub returns-in_ok-connection-in-Some : goal.returns-in_ok-connection-in-Some
returns-in_ok-connection-in-Some c = faulted_by c.args.self.now c.requires.fine c.args.holder.now c.requires.held c.conn-at.result c.in-Some.from.now c.conn-at.ensures c.in-Some.ensures c.disk_text.result.now c.disk_text.ensures
    c.seen.result c.seen.ensures c.in_ok-connection-in-Some.connection c.in_ok-connection-in-Some.ensures
