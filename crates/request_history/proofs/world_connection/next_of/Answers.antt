use Rattle.request_history.proofs.Lent.{event_lent}
use Rattle.request_history.proofs.world_connection.next_of.Goals as goal

pub returns : goal.returns
returns c = rw c.if-switched.false (event_lent c.get.result c.args.events.now c.args.done c.get.ensures.lookup)
