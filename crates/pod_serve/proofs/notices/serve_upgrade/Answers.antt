use Rattle.std.proofs.Common.{◌≡◌, subst, rules}
use Rattle.pod_feed.specs.Feeds.{IsFed}
use Rattle.socket_wire.specs.Counted.{WireCounts}
use Rattle.pod_serve.specs.Connections.{wire_of}
use Rattle.pod_serve.proofs.notices.serve_upgrade.Goals as goal

pub returns-clause-fed : goal.returns-clause-fed
returns-clause-fed g c =
    let old = c.new-wire.result in
    let new = c.serve_feed.new.wire in
    let upgrade = c.args.upgrade.now in
    let same_wires : old.wires.ghost_name ≡ new.wires.ghost_name = c.serve_feed.ensures.follows.1 in
    let counted : new.wires.now ≡ c.wires-1.given.0 = search rules in
    subst (λ (w : WireCounts). IsFed g.N.StoreName.opened upgrade.topic upgrade.agent upgrade.last c.serve_feed.result c.args.session.now c.serve_feed.new.session (wire_of w) (wire_of c.wires-1.given.0)) c.new-wire.ensures.wires
    (subst (λ (w : WireCounts). IsFed g.N.StoreName.opened upgrade.topic upgrade.agent upgrade.last c.serve_feed.result c.args.session.now c.serve_feed.new.session (wire_of old.wires.now) (wire_of w)) counted c.serve_feed.ensures.fed)
