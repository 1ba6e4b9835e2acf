use Rattle.std.proofs.Common.{false, drop, refl}
use Rattle.conn_talk.specs.Agents.{asking_of}
use Rattle.pod_serve.specs.Served.{link_view_of}
use Rattle.pod_serve.proofs.LinkLemmas.{rose_since, write_failed, written_to}
use Rattle.pod_serve.proofs.connection.turn.Goals as goal

pub returns-in-Err-clause-turn : goal.returns-in-Err-clause-turn
returns-in-Err-clause-turn g c =
    let old = c.args.output.now in
    let new = c.flush.new.self in
    let sent = c.in-Err.ensures in
    λ first start s.
    write_failed (record { conn = c.args.reading.now.connection.conn; may_give = g.C.Clock.may_give c.args.clock.now; asking = asking_of c.args.agents.now; trails = false; turns = g.A.Answers.turns; passes = g.A.Answers.passes }) first start c.args.reading.now.parser c.args.answers.now c.args.reading.now.connection.number c.args.reading.now.quiet (drop new.from new.held.now.items) (link_view_of g.L.Link.rest g.L.Link.sent g.L.Link.counts new.link.now)
    (written_to (record { conn = c.args.reading.now.connection.conn; may_give = g.C.Clock.may_give c.args.clock.now; asking = asking_of c.args.agents.now; trails = false; turns = g.A.Answers.turns; passes = g.A.Answers.passes }) first start c.args.reading.now.parser c.args.answers.now c.args.reading.now.connection.number c.args.reading.now.quiet (drop old.from old.held.now.items) (link_view_of g.L.Link.rest g.L.Link.sent g.L.Link.counts old.link.now) s (drop new.from new.held.now.items) (link_view_of g.L.Link.rest g.L.Link.sent g.L.Link.counts new.link.now) sent.follows.1 sent.taken)
    (rose_since start.counts.write_faults (g.L.Link.counts old.link.now).write_faults (g.L.Link.counts new.link.now).write_faults s.write_faults (sent.faults.failed refl))
