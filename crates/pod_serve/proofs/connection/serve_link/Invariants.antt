use Rattle.std.proofs.Common.{◌≡◌, ◌<◌, drop, false}
use Rattle.conn_talk.specs.Agents.{asking_of}
use Rattle.http_conn.specs.declared.events.TheConstants.{REQUEST_LIMIT}
use Rattle.pod_serve.specs.Served.{link_view_of}
use Rattle.pod_serve.specs.Serving.{IsOpenLink}
use Rattle.pod_serve.specs.declared.connection_end.TheConstants.{QUIET_LIMIT}
use Rattle.pod_serve.proofs.connection.serve_link.Given as goal

abbrev pub invariant-loop : goal.invariant-loop
invariant-loop g l =
    (goal.iterator-loop g).can_next l.iterator' × (goal.iterator-loop g).is_finite l.iterator'
    × g.A.Answers.ready l.answers
    × (l.reading.connection.number < REQUEST_LIMIT)
    × (l.reading.quiet < QUIET_LIMIT)
    × (l.reading.connection.conn ≡ l.conn)
    × (l.initial.output.link.ghost_name ≡ l.output.link.ghost_name)
    × IsOpenLink (record { conn = l.conn; may_give = g.C.Clock.may_give l.clock; asking = asking_of l.agents; trails = false; turns = g.A.Answers.turns; passes = g.A.Answers.passes }) l.initial.answers
    (link_view_of g.L.Link.rest g.L.Link.sent g.L.Link.counts l.initial.output.link.now) l.reading.parser l.answers l.reading.connection.number l.reading.quiet (drop l.output.from l.output.held.now.items)
    (link_view_of g.L.Link.rest g.L.Link.sent g.L.Link.counts l.output.link.now)
