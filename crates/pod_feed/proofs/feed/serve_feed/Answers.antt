use Rattle.pod_feed.specs.Feeds.{wire_view_of}
use Rattle.pod_feed.proofs.FeedLemmas.{begins, ended, goes_on}
use Rattle.pod_feed.proofs.feed.serve_feed.Goals as goal

pub loop-init : goal.loop-init
loop-init g c =
    let view = wire_view_of g.W.Wire.sent g.W.Wire.polls g.W.Wire.faults g.W.Wire.closed in
    (begins g.N.StoreName.opened c.args.topic.now c.args.agent.now c.args.last c.args.session.now (view c.args.wire.now), g.W.Wire.still c.args.wire.now)

pub loop-preserved : goal.loop-preserved
loop-preserved g c =
    let view = wire_view_of g.W.Wire.sent g.W.Wire.polls g.W.Wire.faults g.W.Wire.closed in (
      goes_on g.N.StoreName.opened c.args.topic.now c.args.agent.now c.args.last c.loop.last c.args.session.now c.loop.session c.turn.new.session (view c.args.wire.now) (view c.loop.wire) (view c.turn.new.wire) c.loop.invariant.0 c.in-Ok.next c.in-Ok.ensures.turned,
      g.W.Wire.joins c.args.wire.now c.loop.wire c.turn.new.wire c.loop.invariant.1 c.turn.ensures.follows,
    )

pub returns-in-Err : goal.returns-in-Err
returns-in-Err g c =
    let view = wire_view_of g.W.Wire.sent g.W.Wire.polls g.W.Wire.faults g.W.Wire.closed in record {
      fed = ended g.N.StoreName.opened c.args.topic.now c.args.agent.now c.args.last c.loop.last c.args.session.now c.loop.session c.turn.new.session (view c.args.wire.now) (view c.loop.wire) (view c.turn.new.wire) c.loop.invariant.0 c.in-Err.end c.in-Err.ensures.ended;
      follows = g.W.Wire.joins c.args.wire.now c.loop.wire c.turn.new.wire c.loop.invariant.1 c.turn.ensures.follows;
    }
