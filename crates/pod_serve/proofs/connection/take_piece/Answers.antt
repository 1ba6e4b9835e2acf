use Rattle.std.proofs.Common.{List, ℕ, Option, Err, false, drop, ap, subst, ◌∙◌, arith}
use Rattle.conn_talk.specs.Agents.{asking_of}
use Rattle.pod_io.specs.Writing.{ExtendsBy}
use Rattle.pod_serve.specs.Served.{link_view_of}
use Rattle.pod_serve.specs.Serving.{taken_with}
use Rattle.pod_serve.specs.ServingLaws.{written_joins}
use Rattle.pod_serve.proofs.LinkLemmas.{finished, none_waits, rose_before, rose_since, stays_open}
use Rattle.pod_serve.proofs.connection.take_piece.Goals as goal

-- all events were answered
pub returns-in-Ok-clause-turn : goal.returns-in-Ok-clause-turn
returns-in-Ok-clause-turn g c =
    let a = c.in-Ok.ensures.answers in
    let old = c.args.output.now in
    let new = c.answer_piece.new.output in
    λ first start s.
    stays_open (record { conn = c.args.reading.now.connection.conn; may_give = g.C.Clock.may_give c.args.clock.now; asking = asking_of c.args.agents.now; trails = false; turns = g.A.Answers.turns; passes = g.A.Answers.passes }) first start c.args.reading.now.parser c.args.answers.now c.args.reading.now.connection.number c.args.piece.now (link_view_of g.L.Link.rest g.L.Link.sent g.L.Link.counts old.link.now) s a.0 c.answer_piece.new.parser c.answer_piece.new.answers c.answer_piece.new.connection.number (drop new.from new.held.now.items) (link_view_of g.L.Link.rest g.L.Link.sent g.L.Link.counts new.link.now) c.in-Ok.ensures.follows.1
    (subst (λ (o : Option (List ℕ)). ExtendsBy a.0 o (taken_with (drop new.from new.held.now.items) (g.L.Link.sent new.link.now))) (none_waits (drop old.from old.held.now.items) (g.L.Link.sent old.link.now) c.requires.empty) a.1)
    (a.2 first s.text s.written s.answered)

-- the connection ended
pub returns-in-Err-clause-turn : goal.returns-in-Err-clause-turn
returns-in-Err-clause-turn g c =
    let a = c.in-Err.ensures.answers in
    let old = c.args.output.now in
    let mid = c.answer_piece.new.output in
    let new = c.finish.new.output in
    λ first start s.
    finished (record { conn = c.args.reading.now.connection.conn; may_give = g.C.Clock.may_give c.args.clock.now; asking = asking_of c.args.agents.now; trails = false; turns = g.A.Answers.turns; passes = g.A.Answers.passes }) first start c.args.reading.now.parser c.args.answers.now c.args.reading.now.connection.number c.args.piece.now (link_view_of g.L.Link.rest g.L.Link.sent g.L.Link.counts old.link.now) s a.0 c.answer_piece.new.parser c.answer_piece.new.answers c.answer_piece.new.connection.number (drop new.from new.held.now.items) (link_view_of g.L.Link.rest g.L.Link.sent g.L.Link.counts new.link.now)
    (written_joins (g.L.Link.rest old.link.now) (g.L.Link.rest mid.link.now) (g.L.Link.rest new.link.now) (g.L.Link.sent old.link.now) (g.L.Link.sent mid.link.now) (g.L.Link.sent new.link.now) (g.L.Link.counts old.link.now) (g.L.Link.counts mid.link.now) (g.L.Link.counts new.link.now) c.in-Err.ensures.follows.1 c.finish.ensures.written)
    (c.finish.ensures.taken ∙ subst (λ (o : Option (List ℕ)). ExtendsBy a.0 o (taken_with (drop mid.from mid.held.now.items) (g.L.Link.sent mid.link.now))) (none_waits (drop old.from old.held.now.items) (g.L.Link.sent old.link.now) c.requires.empty) a.1)
    c.in-Err.end c.finish.result (g.L.Link.counts mid.link.now).write_faults (omega (arith, s.write_faults, c.in-Err.ensures.no_fewer)) (a.2 first s.text s.written s.answered) c.finish.ensures.finishes
    (λ is. rose_before start.counts.write_faults (g.L.Link.counts mid.link.now).write_faults (g.L.Link.counts new.link.now).write_faults
    (rose_since start.counts.write_faults (g.L.Link.counts old.link.now).write_faults (g.L.Link.counts mid.link.now).write_faults s.write_faults (c.in-Err.ensures.failed (ap (λ e. Err e) is))) c.finish.ensures.written.write_faults)
