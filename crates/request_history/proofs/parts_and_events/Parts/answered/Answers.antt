use Rattle.request_history.proofs.Takes.{answered_by, ready_next}
use Rattle.request_history.proofs.parts_and_events.Parts.answered.Goals as goal

pub answered-requires : goal.answered-requires
answered-requires c = ready_next c.args.self.now c.args.conn c.in-Some.from.now c.in-Some.ensures c.requires

pub returns-in_ok-next-in-Some : goal.returns-in_ok-next-in-Some
returns-in_ok-next-in-Some c = answered_by c.args.self.now c.args.conn c.in-Some.from.now c.in-Some.ensures c.args.answer.now c.as_slice.result.now c.as_slice.ensures c.end-end.result c.end-end.ensures c.in_ok-next-in-Some.next c.in_ok-next-in-Some.ensures
