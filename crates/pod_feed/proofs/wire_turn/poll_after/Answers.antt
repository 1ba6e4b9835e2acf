use Rattle.pod_feed.specs.Feeds.{wire_view_of}
use Rattle.pod_feed.proofs.TurnLemmas.{polls_so}
use Rattle.pod_feed.proofs.wire_turn.poll_after.Goals as goal

pub returns-in-Ok-clause-polled : goal.returns-in-Ok-clause-polled
returns-in-Ok-clause-polled g c =
    let view = wire_view_of g.W.Wire.sent g.W.Wire.polls g.W.Wire.faults g.W.Wire.closed in
    polls_so c.args.next c.in-Ok.polled c.polled_so.result (view c.args.wire.now) (view c.poll.new.self) c.polled_so.ensures c.in-Ok.ensures.sent c.in-Ok.ensures.polls c.in-Ok.ensures.faults c.in-Ok.ensures.closed

pub returns-in-Err-clause-polled : goal.returns-in-Err-clause-polled
returns-in-Err-clause-polled g c = record {
  sent = c.in-Err.ensures.sent;
  polls = c.in-Err.ensures.polls.failed;
  faults = c.in-Err.ensures.faults.failed;
  closed = c.in-Err.ensures.closed;
}
