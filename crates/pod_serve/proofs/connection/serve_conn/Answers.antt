use Rattle.conn_talk.specs.Agents.{asking_of}
use Rattle.pod_serve.specs.Served.{link_view_of}
use Rattle.pod_serve.proofs.NoticeLemmas.{noticed_served, plain_served}
use Rattle.pod_serve.proofs.connection.serve_conn.Goals as goal

pub returns-in-Some : goal.returns-in-Some
returns-in-Some g c =
    let view = link_view_of g.K.Link.rest g.K.Link.sent g.K.Link.counts in
    let served = c.serve_requests-requests in
    plain_served g.N.StoreName.kept g.N.StoreName.opened.next (g.C.Clock.may_give c.args.clock.now) (asking_of c.args.agents.now) g.N.StoreName.opened c.args.conn c.in-Some.end served.result c.args.session.now served.new.session (view c.args.link.now) (view served.new.link) served.new.upgrade c.args.wires.now
    c.in-Some.ensures.some c.in-Some.ensures.plain served.ensures

pub returns : goal.returns
returns g c =
    let view = link_view_of g.K.Link.rest g.K.Link.sent g.K.Link.counts in
    let served = c.serve_requests-requests in
    let noticed = c.serve_notices in
    noticed_served g.N.StoreName.kept g.N.StoreName.opened.next (g.C.Clock.may_give c.args.clock.now) (asking_of c.args.agents.now) g.N.StoreName.opened c.args.conn g.N.StoreName.ends served.result noticed.result c.args.session.now served.new.session noticed.new.session (view c.args.link.now) (view served.new.link) (view noticed.new.link) served.new.upgrade c.args.wires.now noticed.new.wires
    c.in-None.ensures.none served.ensures noticed.ensures
