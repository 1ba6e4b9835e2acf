use Rattle.pod_feed.specs.Feeds.{wire_view_of}
use Rattle.pod_feed.proofs.TurnLemmas.{last_look, last_turn_so, turn_so}
use Rattle.pod_feed.proofs.feed.turn.Goals as goal

pub returns-in-Ok-clause-turned : goal.returns-in-Ok-clause-turned
returns-in-Ok-clause-turned g c =
    let view = wire_view_of g.W.Wire.sent g.W.Wire.polls g.W.Wire.faults g.W.Wire.closed in
    turn_so g.N.StoreName.opened c.args.last c.args.topic.now c.args.agent.now c.args.session.now c.look_for_news.new.session (view c.args.wire.now) (view c.send_and_poll.new.wire) c.in-Ok.report c.send_and_poll.result c.in-Ok.ensures.report c.send_and_poll.ensures.turned

pub returns-in-Ok-clause-ended : goal.returns-in-Ok-clause-ended
returns-in-Ok-clause-ended g c =
    let view = wire_view_of g.W.Wire.sent g.W.Wire.polls g.W.Wire.faults g.W.Wire.closed in
    last_turn_so g.N.StoreName.opened c.args.last c.args.topic.now c.args.agent.now c.args.session.now c.look_for_news.new.session (view c.args.wire.now) (view c.send_and_poll.new.wire) c.in-Ok.report c.send_and_poll.result c.in-Ok.ensures.report c.send_and_poll.ensures.ended

pub returns-in-Err-clause-ended : goal.returns-in-Err-clause-ended
returns-in-Err-clause-ended g c =
    let view = wire_view_of g.W.Wire.sent g.W.Wire.polls g.W.Wire.faults g.W.Wire.closed in
    last_look g.N.StoreName.opened c.args.last c.args.topic.now c.args.agent.now c.args.session.now c.look_for_news.new.session (view c.args.wire.now) c.in-Err.end c.in-Err.ensures.end

pub returns-in-Err-clause-follows : goal.returns-in-Err-clause-follows
returns-in-Err-clause-follows g c = g.W.Wire.still c.args.wire.now
