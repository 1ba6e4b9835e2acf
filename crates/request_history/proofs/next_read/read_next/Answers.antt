use Rattle.std.proofs.Common.{suc}
use Rattle.request_history.proofs.Looks.{look_none}
use Rattle.request_history.specs.Worlds.{asking_of}
use Rattle.request_history.proofs.next_read.read_next.Goals as goal

pub read_event-requires-clause-next : goal.read_event-requires-clause-next
read_event-requires-clause-next c = c.in-Some.ensures

pub returns-in-None : goal.returns-in-None
returns-in-None c = look_none (asking_of c.args.tokens.now) c.args.keeper.now.history (suc c.args.conn) c.args.place c.args.moment.0 c.args.from.now c.in-None.ensures
