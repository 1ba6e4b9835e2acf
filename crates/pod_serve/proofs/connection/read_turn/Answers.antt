use Rattle.std.proofs.Common.{false, [], drop, take, Err, ap, refl, ◌∙◌, rules}
use Rattle.conn_talk.specs.Agents.{asking_of}
use Rattle.conn_talk.specs.declared.connection_events.Connection.{Connection}
use Rattle.pod_io.specs.Links.{quiet_after, quiet_row_after}
use Rattle.pod_pipe.proofs.ReadsLemmas.{ended_at, met_end, met_no_end, reads_more, reads_none, some_read}
use Rattle.pod_serve.specs.Served.{link_view_of}
use Rattle.pod_serve.proofs.LinkLemmas.{at_its_end, piece_read, quiet_read, read_failed}
use Rattle.pod_serve.proofs.connection.read_turn.Goals as goal

pub take_piece-requires-clause-read : goal.take_piece-requires-clause-read
take_piece-requires-clause-read g c =
    let o = c.requires.is_open in
    let first = o.0 in
    let start = o.1 in
    let s = o.2 in
    let old = c.args.output.now in
    let new = c.receive.new.self in
    let read = c.in-Ok.ensures in (
      first,
      start,
      piece_read (record { conn = c.args.reading.now.connection.conn; may_give = g.C.Clock.may_give c.args.clock.now; asking = asking_of c.args.agents.now; trails = false; turns = g.A.Answers.turns; passes = g.A.Answers.passes }) first start c.args.reading.now.parser c.args.answers.now c.args.reading.now.connection.number c.args.reading.now.quiet [] (link_view_of g.L.Link.rest g.L.Link.sent g.L.Link.counts old.link.now) s refl (take c.in-Ok.count c.receive.new.into) (link_view_of g.L.Link.rest g.L.Link.sent g.L.Link.counts new.link.now)
          (reads_more s.text c.args.into.now c.receive.new.into c.in-Ok.count start.rest (g.L.Link.rest old.link.now) (g.L.Link.rest new.link.now) s.reads read.bytes read.rest.taken)
          read.sent (met_no_end (g.L.Link.counts old.link.now).ends (g.L.Link.counts new.link.now).ends c.in-Ok.count c.if-count-eq0.false read.counts.ends.read) read.counts.quiet read.counts.no_fewer read.counts.write_faults read.counts.reads.read (some_read c.receive.new.into c.in-Ok.count (search rules) c.if-count-eq0.false),
    )

-- the input ended
pub returns-then-count-eq0-clause-turn : goal.returns-then-count-eq0-clause-turn
returns-then-count-eq0-clause-turn g c =
    let old = c.args.output.now in
    let new = c.receive.new.self in
    let read = c.in-Ok.ensures in
    λ first start s.
    at_its_end (record { conn = c.args.reading.now.connection.conn; may_give = g.C.Clock.may_give c.args.clock.now; asking = asking_of c.args.agents.now; trails = false; turns = g.A.Answers.turns; passes = g.A.Answers.passes }) first start c.args.reading.now.parser c.args.answers.now c.args.reading.now.connection.number c.args.reading.now.quiet [] (link_view_of g.L.Link.rest g.L.Link.sent g.L.Link.counts old.link.now) s refl c.rest.result c.at_end.result (link_view_of g.L.Link.rest g.L.Link.sent g.L.Link.counts new.link.now) c.rest.ensures.exact c.at_end.ensures
    (reads_none s.text c.args.into.now c.receive.new.into c.in-Ok.count start.rest (g.L.Link.rest old.link.now) (g.L.Link.rest new.link.now) c.if-count-eq0.true s.reads read.bytes read.rest.taken)
    (ended_at c.args.into.now c.receive.new.into c.in-Ok.count (g.L.Link.rest old.link.now) (g.L.Link.rest new.link.now) c.if-count-eq0.true read.bytes read.rest.taken)
    read.sent (met_end (g.L.Link.counts old.link.now).ends (g.L.Link.counts new.link.now).ends c.in-Ok.count c.if-count-eq0.true read.counts.ends.read) read.counts.reads.read

-- a piece came
pub returns-else-count-eq0-clause-turn : goal.returns-else-count-eq0-clause-turn
returns-else-count-eq0-clause-turn g c =
    let old = c.args.output.now in
    let new = c.receive.new.self in
    let read = c.in-Ok.ensures in
    λ first start s. c.take_piece.ensures.turn first start
    (piece_read (record { conn = c.args.reading.now.connection.conn; may_give = g.C.Clock.may_give c.args.clock.now; asking = asking_of c.args.agents.now; trails = false; turns = g.A.Answers.turns; passes = g.A.Answers.passes }) first start c.args.reading.now.parser c.args.answers.now c.args.reading.now.connection.number c.args.reading.now.quiet [] (link_view_of g.L.Link.rest g.L.Link.sent g.L.Link.counts old.link.now) s refl (take c.in-Ok.count c.receive.new.into) (link_view_of g.L.Link.rest g.L.Link.sent g.L.Link.counts new.link.now)
    (reads_more s.text c.args.into.now c.receive.new.into c.in-Ok.count start.rest (g.L.Link.rest old.link.now) (g.L.Link.rest new.link.now) s.reads read.bytes read.rest.taken)
    read.sent (met_no_end (g.L.Link.counts old.link.now).ends (g.L.Link.counts new.link.now).ends c.in-Ok.count c.if-count-eq0.false read.counts.ends.read) read.counts.quiet read.counts.no_fewer read.counts.write_faults read.counts.reads.read (some_read c.receive.new.into c.in-Ok.count (search rules) c.if-count-eq0.false))

-- nothing came
pub returns-in-Err-Quiet-clause-turn : goal.returns-in-Err-Quiet-clause-turn
returns-in-Err-Quiet-clause-turn g c =
    let old = c.args.output.now in
    let new = c.receive.new.self in
    let read = c.in-Err-Quiet.ensures in
    let told = c.count_quiet.ensures in
    λ first start s.
    quiet_read (record { conn = c.args.reading.now.connection.conn; may_give = g.C.Clock.may_give c.args.clock.now; asking = asking_of c.args.agents.now; trails = false; turns = g.A.Answers.turns; passes = g.A.Answers.passes }) first start c.args.reading.now.parser c.count_quiet.new.reading.parser c.args.answers.now c.args.reading.now.connection.number c.count_quiet.new.reading.connection.number c.args.reading.now.quiet c.count_quiet.new.reading.quiet [] (drop new.from new.held.now.items) (link_view_of g.L.Link.rest g.L.Link.sent g.L.Link.counts old.link.now) (link_view_of g.L.Link.rest g.L.Link.sent g.L.Link.counts new.link.now) c.count_quiet.result s refl
    read.rest.whole read.sent (read.counts.quiet ∙ ap (λ f. quiet_after (Err f) (g.L.Link.counts old.link.now).quiet) c.in-Err-Quiet.field-0-is) (read.counts.quiet_row ∙ ap (λ f. quiet_row_after (Err f) (g.L.Link.counts old.link.now).quiet_row) c.in-Err-Quiet.field-0-is) read.counts.ends.failed read.counts.reads.failed read.counts.no_fewer read.counts.write_faults
    c.requires.quiet told.quiet (ap (λ n. drop n new.held.now.items) read.from ∙ (ap (λ h. drop old.from h.items) read.held ∙ c.requires.empty)) told.end told.parser (ap (λ (x : Connection). x.number) told.connection)

-- the read failed
pub returns-in-Err-Failed-clause-turn : goal.returns-in-Err-Failed-clause-turn
returns-in-Err-Failed-clause-turn g c =
    let old = c.args.output.now in
    let new = c.receive.new.self in
    let read = c.in-Err-Failed.ensures in
    λ first start s.
    read_failed (record { conn = c.args.reading.now.connection.conn; may_give = g.C.Clock.may_give c.args.clock.now; asking = asking_of c.args.agents.now; trails = false; turns = g.A.Answers.turns; passes = g.A.Answers.passes }) first start c.args.reading.now.parser c.args.answers.now c.args.reading.now.connection.number c.args.reading.now.quiet [] (link_view_of g.L.Link.rest g.L.Link.sent g.L.Link.counts old.link.now) s refl (link_view_of g.L.Link.rest g.L.Link.sent g.L.Link.counts new.link.now) read.rest.whole read.sent (read.counts.failed (ap Err c.in-Err-Failed.field-0-is)) read.counts.ends.failed read.counts.reads.failed
