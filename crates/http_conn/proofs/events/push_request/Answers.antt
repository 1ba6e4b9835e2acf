use Rattle.std.proofs.Common.{sym}
use Rattle.http_conn.proofs.StepLemmas.{finishes_over, finishes_head}
use Rattle.http_conn.proofs.events.push_request.Goals as goal

-- the last request
pub returns-then-last-clause-ends : goal.returns-then-last-clause-ends
returns-then-last-clause-ends c = finishes_over c.args.count c.args.head c.args.body c.args.events.now.items c.push_event.new.events.items (sym c.if-last.ensures) c.in_ok-push_event.ensures

-- more may come
pub returns-else-last-clause-ends : goal.returns-else-last-clause-ends
returns-else-last-clause-ends c =
    finishes_head c.args.count c.args.head c.args.body c.args.events.now.items c.push_event.new.events.items c.new.result (sym c.if-last.ensures) c.in_ok-push_event.ensures
    c.new.ensures.bytes c.new.ensures.seen c.new.ensures.count
