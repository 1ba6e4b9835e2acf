use Rattle.pod_feed.specs.Feeds.{wire_view_of}
use Rattle.pod_feed.specs.Turns.{IsFedThrough}
use Rattle.pod_feed.proofs.feed.serve_feed.Given as goal

abbrev pub invariant-loop : goal.invariant-loop
invariant-loop g l =
    IsFedThrough g.N.StoreName.opened l.topic l.agent l.initial.last l.last l.initial.session l.session
    (wire_view_of g.W.Wire.sent g.W.Wire.polls g.W.Wire.faults g.W.Wire.closed l.initial.wire)
    (wire_view_of g.W.Wire.sent g.W.Wire.polls g.W.Wire.faults g.W.Wire.closed l.wire)
    × g.W.Wire.follows l.initial.wire l.wire
