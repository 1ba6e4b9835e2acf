use Rattle.std.proofs.Common.{ℕ, refl, rules, take, ◌++◌, inl, Ok, Err, sym, ap, subst, ◌∙◌, arith}
use Rattle.std.specs.List.{AllByRecursion}
use Rattle.conn_talk.specs.Agents.{asking_of}
use Rattle.conn_talk.specs.Talks.{MayBeSent, TurnsIn}
use Rattle.conn_talk.specs.Turns.{Rules}
use Rattle.conn_talk.proofs.PieceLemmas.{piece_ends, piece_statuses}
use Rattle.http_conn.specs.Messages.{NothingAfterEnd}
use Rattle.pod_io.specs.Counts.{next_count}
use Rattle.pod_pipe.specs.Held.{holder_rules}
use Rattle.pod_pipe.specs.Statuses.{Pipes}
use Rattle.pod_pipe.specs.Streams.{CountsInput}
use Rattle.pod_pipe.specs.declared.held_answers.Held.{Held}
use Rattle.pod_pipe.proofs.EndingsLemmas.{holder_leaves, served_of, stopped_of}
use Rattle.pod_pipe.proofs.ServingLemmas.{begins, end_reads, end_writes, read_fault, bounded, at_end, no_memory, goes_on, ended, has_place, is_write_fault, never_reads, counts_end, counts_heard, rose_in_one}
use Rattle.pod_pipe.proofs.ReadsLemmas.{reads_more, reads_none, ended_at, some_read, met_end, met_no_end, none_counted, one_more, few_counted, all_counted, fails_counted}
use Rattle.pod_pipe.proofs.input_loop.serve.Goals as goal

pub reads-init : goal.reads-init
reads-init g c =
    let conn_rules : Rules (Held g.row.H.Denot) = holder_rules g.H.PodHolder.stands g.H.PodHolder.faults g.H.PodHolder.takes (λ (h : Held g.row.H.Denot). h.holder) (g.C.Clock.may_give c.args.clock.now) (asking_of c.args.options.now.agents) c.args.options.now.trail in (
      begins conn_rules c.new-conn.result c.args.held.now (g.S.Source.rest c.args.input.now) (g.K.Sink.taken c.args.output.now) (g.E.Sink.taken c.args.errors.now) c.new-conn.ensures,
      omega arith,
      omega arith,
      omega arith,
      none_counted (g.S.Source.reads c.args.input.now),
      refl,
      omega arith,
      omega arith,
      c.requires,
      refl,
    )

-- the end of the input is no fault
pub returns-then-count-eq0-clause-read_fault : goal.returns-then-count-eq0-clause-read_fault
returns-then-count-eq0-clause-read_fault g c = λ is. absurd (end_reads c.rest.result c.at_end.result c.at_end.ensures is)

pub returns-then-count-eq0-clause-write_fault : goal.returns-then-count-eq0-clause-write_fault
returns-then-count-eq0-clause-write_fault g c = λ is. absurd (end_writes c.rest.result c.at_end.result c.at_end.ensures is)

-- a read failed
pub returns-in_default-clause-pipes : goal.returns-in_default-clause-pipes
returns-in_default-clause-pipes g c =
    λ history doubt held.
    let conn_rules : Rules (Held g.row.H.Denot) = holder_rules g.H.PodHolder.stands g.H.PodHolder.faults g.H.PodHolder.takes (λ (h : Held g.row.H.Denot). h.holder) (g.C.Clock.may_give c.args.clock.now) (asking_of c.args.options.now.agents) c.args.options.now.trail in
    read_fault conn_rules (g.C.Clock.may_give c.args.clock.now) (asking_of c.args.options.now.agents) c.args.options.now.trail history
    (holder_leaves g.H.PodHolder.stands g.H.PodHolder.faults g.H.PodHolder.takes g.met.H.PodHolder.legal (λ (h : Held g.row.H.Denot). h.holder) (g.C.Clock.may_give c.args.clock.now) (asking_of c.args.options.now.agents) c.args.options.now.trail c.sessions_are_isolated.ensures.items history doubt c.args.held.now c.reads.held held)
    c.args.held.now c.reads.held
    (served_of g.H.PodHolder.stands g.H.PodHolder.faults g.H.PodHolder.takes g.met.H.PodHolder.legal (λ (h : Held g.row.H.Denot). h.holder) (g.C.Clock.may_give c.args.clock.now) (asking_of c.args.options.now.agents) c.args.options.now.trail c.sessions_are_isolated.ensures.items history doubt c.args.held.now c.reads.held held)
    (stopped_of g.H.PodHolder.stands g.H.PodHolder.faults g.H.PodHolder.takes g.met.H.PodHolder.legal (λ (h : Held g.row.H.Denot). h.holder) (g.C.Clock.may_give c.args.clock.now) (asking_of c.args.options.now.agents) c.args.options.now.trail c.sessions_are_isolated.ensures.items history doubt c.args.held.now c.reads.held held)
    c.reads.conn c.reads.connection.number (g.S.Source.rest c.args.input.now) (g.S.Source.rest c.reads.input) (g.K.Sink.taken c.args.output.now) (g.K.Sink.taken c.reads.output) (g.E.Sink.taken c.args.errors.now) (g.E.Sink.taken c.reads.errors) c.reads.counter c.reads.invariant.0 (g.S.Source.rest c.read.new.self) c.in_default.ensures.rest.whole

-- the input ended
pub returns-then-count-eq0-clause-pipes : goal.returns-then-count-eq0-clause-pipes
returns-then-count-eq0-clause-pipes g c =
    λ history doubt held.
    let conn_rules : Rules (Held g.row.H.Denot) = holder_rules g.H.PodHolder.stands g.H.PodHolder.faults g.H.PodHolder.takes (λ (h : Held g.row.H.Denot). h.holder) (g.C.Clock.may_give c.args.clock.now) (asking_of c.args.options.now.agents) c.args.options.now.trail in
    let s = c.reads.invariant.0 in
    let read = c.in-Ok.ensures in
    at_end conn_rules (g.C.Clock.may_give c.args.clock.now) (asking_of c.args.options.now.agents) c.args.options.now.trail history
    (holder_leaves g.H.PodHolder.stands g.H.PodHolder.faults g.H.PodHolder.takes g.met.H.PodHolder.legal (λ (h : Held g.row.H.Denot). h.holder) (g.C.Clock.may_give c.args.clock.now) (asking_of c.args.options.now.agents) c.args.options.now.trail c.sessions_are_isolated.ensures.items history doubt c.args.held.now c.reads.held held)
    c.args.held.now c.reads.held
    (served_of g.H.PodHolder.stands g.H.PodHolder.faults g.H.PodHolder.takes g.met.H.PodHolder.legal (λ (h : Held g.row.H.Denot). h.holder) (g.C.Clock.may_give c.args.clock.now) (asking_of c.args.options.now.agents) c.args.options.now.trail c.sessions_are_isolated.ensures.items history doubt c.args.held.now c.reads.held held)
    (stopped_of g.H.PodHolder.stands g.H.PodHolder.faults g.H.PodHolder.takes g.met.H.PodHolder.legal (λ (h : Held g.row.H.Denot). h.holder) (g.C.Clock.may_give c.args.clock.now) (asking_of c.args.options.now.agents) c.args.options.now.trail c.sessions_are_isolated.ensures.items history doubt c.args.held.now c.reads.held held)
    c.reads.conn c.reads.connection.number (g.S.Source.rest c.args.input.now) (g.S.Source.rest c.reads.input) (g.K.Sink.taken c.args.output.now) (g.K.Sink.taken c.reads.output) (g.E.Sink.taken c.args.errors.now) (g.E.Sink.taken c.reads.errors) c.reads.counter s c.rest.result c.at_end.result (g.S.Source.rest c.read.new.self) c.rest.ensures.exact c.at_end.ensures
    (reads_none s.text c.reads.piece c.read.new.into c.in-Ok.count (g.S.Source.rest c.args.input.now) (g.S.Source.rest c.reads.input) (g.S.Source.rest c.read.new.self) c.if-count-eq0.true s.reads read.bytes read.rest.taken)
    (ended_at c.reads.piece c.read.new.into c.in-Ok.count (g.S.Source.rest c.reads.input) (g.S.Source.rest c.read.new.self) c.if-count-eq0.true read.bytes read.rest.taken)

-- no memory was left to parse the piece
pub returns-in_default-feed-clause-pipes : goal.returns-in_default-feed-clause-pipes
returns-in_default-feed-clause-pipes g c =
    λ history doubt held.
    let conn_rules : Rules (Held g.row.H.Denot) = holder_rules g.H.PodHolder.stands g.H.PodHolder.faults g.H.PodHolder.takes (λ (h : Held g.row.H.Denot). h.holder) (g.C.Clock.may_give c.args.clock.now) (asking_of c.args.options.now.agents) c.args.options.now.trail in
    let s = c.reads.invariant.0 in
    let read = c.in-Ok.ensures in
    no_memory conn_rules (g.C.Clock.may_give c.args.clock.now) (asking_of c.args.options.now.agents) c.args.options.now.trail history
    (holder_leaves g.H.PodHolder.stands g.H.PodHolder.faults g.H.PodHolder.takes g.met.H.PodHolder.legal (λ (h : Held g.row.H.Denot). h.holder) (g.C.Clock.may_give c.args.clock.now) (asking_of c.args.options.now.agents) c.args.options.now.trail c.sessions_are_isolated.ensures.items history doubt c.args.held.now c.reads.held held)
    c.args.held.now c.reads.held
    (served_of g.H.PodHolder.stands g.H.PodHolder.faults g.H.PodHolder.takes g.met.H.PodHolder.legal (λ (h : Held g.row.H.Denot). h.holder) (g.C.Clock.may_give c.args.clock.now) (asking_of c.args.options.now.agents) c.args.options.now.trail c.sessions_are_isolated.ensures.items history doubt c.args.held.now c.reads.held held)
    (stopped_of g.H.PodHolder.stands g.H.PodHolder.faults g.H.PodHolder.takes g.met.H.PodHolder.legal (λ (h : Held g.row.H.Denot). h.holder) (g.C.Clock.may_give c.args.clock.now) (asking_of c.args.options.now.agents) c.args.options.now.trail c.sessions_are_isolated.ensures.items history doubt c.args.held.now c.reads.held held)
    c.reads.conn c.reads.connection.number (g.S.Source.rest c.args.input.now) (g.S.Source.rest c.reads.input) (g.K.Sink.taken c.args.output.now) (g.K.Sink.taken c.reads.output) (g.E.Sink.taken c.args.errors.now) (g.E.Sink.taken c.reads.errors) c.reads.counter s (take c.in-Ok.count c.read.new.into) (g.S.Source.rest c.read.new.self) (reads_more s.text c.reads.piece c.read.new.into c.in-Ok.count (g.S.Source.rest c.args.input.now) (g.S.Source.rest c.reads.input) (g.S.Source.rest c.read.new.self) s.reads read.bytes read.rest.taken)

pub answer_events-requires-clause-ends : goal.answer_events-requires-clause-ends
answer_events-requires-clause-ends g c =
    let conn_rules : Rules (Held g.row.H.Denot) = holder_rules g.H.PodHolder.stands g.H.PodHolder.faults g.H.PodHolder.takes (λ (h : Held g.row.H.Denot). h.holder) (g.C.Clock.may_give c.args.clock.now) (asking_of c.args.options.now.agents) c.args.options.now.trail in
    let s = c.reads.invariant.0 in
    subst (NothingAfterEnd c.reads.connection.number) (sym c.as_slice.ensures)
    (piece_ends conn_rules c.args.held.now c.reads.conn c.reads.held c.reads.connection.number s.text s.written s.trail s.answering (s.text ++ take c.in-Ok.count c.read.new.into) c.in-Ok-feed.heard.items _ (c.in-Ok-feed.ensures.messages s.text s.answering.heard s.answering.represents))

pub answer_events-requires-clause-statuses : goal.answer_events-requires-clause-statuses
answer_events-requires-clause-statuses g c =
    let conn_rules : Rules (Held g.row.H.Denot) = holder_rules g.H.PodHolder.stands g.H.PodHolder.faults g.H.PodHolder.takes (λ (h : Held g.row.H.Denot). h.holder) (g.C.Clock.may_give c.args.clock.now) (asking_of c.args.options.now.agents) c.args.options.now.trail in
    let s = c.reads.invariant.0 in
    subst (AllByRecursion MayBeSent) (sym c.as_slice.ensures)
    (piece_statuses conn_rules c.args.held.now c.reads.conn c.reads.held c.reads.connection.number s.text s.written s.trail s.answering (s.text ++ take c.in-Ok.count c.read.new.into) c.in-Ok-feed.heard.items _ (c.in-Ok-feed.ensures.messages s.text s.answering.heard s.answering.represents))

-- each request had a place
pub pipe_end-requires : goal.pipe_end-requires
pipe_end-requires g c =
    let conn_rules : Rules (Held g.row.H.Denot) = holder_rules g.H.PodHolder.stands g.H.PodHolder.faults g.H.PodHolder.takes (λ (h : Held g.row.H.Denot). h.holder) (g.C.Clock.may_give c.args.clock.now) (asking_of c.args.options.now.agents) c.args.options.now.trail in
    let told = c.in-Err.ensures.turns in
    has_place conn_rules c.args.held.now c.reads.conn c.reads.held c.reads.connection.number (g.S.Source.rest c.args.input.now) (g.S.Source.rest c.reads.input) (g.K.Sink.taken c.args.output.now) (g.K.Sink.taken c.reads.output) (g.E.Sink.taken c.args.errors.now) (g.E.Sink.taken c.reads.errors) c.reads.counter c.reads.invariant.0 c.in-Ok-feed.heard.items c.answer_events.new.answers c.answer_events.new.self.number told.0 told.1 c.in-Err.end (λ request old new passed. passed)
    (subst (λ hears. TurnsIn conn_rules c.reads.held c.reads.connection.number c.answer_events.new.answers c.answer_events.new.self.number hears told.0 told.1 (Err c.in-Err.end)) c.as_slice.ensures (subst (λ (n : ℕ). TurnsIn (record conn_rules { conn = n }) c.reads.held c.reads.connection.number c.answer_events.new.answers c.answer_events.new.self.number c.as_slice.result.now told.0 told.1 (Err c.in-Err.end)) c.reads.invariant.9 told.4))

-- the connection ended in this piece
pub returns-in-Err-clause-pipes : goal.returns-in-Err-clause-pipes
returns-in-Err-clause-pipes g c =
    λ history doubt held.
    let conn_rules : Rules (Held g.row.H.Denot) = holder_rules g.H.PodHolder.stands g.H.PodHolder.faults g.H.PodHolder.takes (λ (h : Held g.row.H.Denot). h.holder) (g.C.Clock.may_give c.args.clock.now) (asking_of c.args.options.now.agents) c.args.options.now.trail in
    let s = c.reads.invariant.0 in
    let read = c.in-Ok.ensures in
    let told = c.in-Err.ensures.turns in
    subst (λ end. Pipes (g.C.Clock.may_give c.args.clock.now) (asking_of c.args.options.now.agents) c.args.options.now.trail history (holder_leaves g.H.PodHolder.stands g.H.PodHolder.faults g.H.PodHolder.takes g.met.H.PodHolder.legal (λ (h : Held g.row.H.Denot). h.holder) (g.C.Clock.may_give c.args.clock.now) (asking_of c.args.options.now.agents) c.args.options.now.trail c.sessions_are_isolated.ensures.items history doubt c.args.held.now c.answer_events.new.answers held) end
    (g.S.Source.rest c.args.input.now) (g.S.Source.rest c.read.new.self) (g.K.Sink.taken c.args.output.now) (g.K.Sink.taken c.answer_events.new.output) (g.E.Sink.taken c.args.errors.now) (g.E.Sink.taken c.answer_events.new.errors)) (sym c.pipe_end.ensures)
    (ended conn_rules (g.C.Clock.may_give c.args.clock.now) (asking_of c.args.options.now.agents) c.args.options.now.trail history
    (holder_leaves g.H.PodHolder.stands g.H.PodHolder.faults g.H.PodHolder.takes g.met.H.PodHolder.legal (λ (h : Held g.row.H.Denot). h.holder) (g.C.Clock.may_give c.args.clock.now) (asking_of c.args.options.now.agents) c.args.options.now.trail c.sessions_are_isolated.ensures.items history doubt c.args.held.now c.answer_events.new.answers held)
    c.args.held.now c.answer_events.new.answers
    (served_of g.H.PodHolder.stands g.H.PodHolder.faults g.H.PodHolder.takes g.met.H.PodHolder.legal (λ (h : Held g.row.H.Denot). h.holder) (g.C.Clock.may_give c.args.clock.now) (asking_of c.args.options.now.agents) c.args.options.now.trail c.sessions_are_isolated.ensures.items history doubt c.args.held.now c.answer_events.new.answers held)
    (stopped_of g.H.PodHolder.stands g.H.PodHolder.faults g.H.PodHolder.takes g.met.H.PodHolder.legal (λ (h : Held g.row.H.Denot). h.holder) (g.C.Clock.may_give c.args.clock.now) (asking_of c.args.options.now.agents) c.args.options.now.trail c.sessions_are_isolated.ensures.items history doubt c.args.held.now c.answer_events.new.answers held)
    c.reads.conn c.reads.held c.reads.connection.number c.answer_events.new.self.number (g.S.Source.rest c.args.input.now) (g.S.Source.rest c.reads.input) (g.K.Sink.taken c.args.output.now) (g.K.Sink.taken c.reads.output) (g.E.Sink.taken c.args.errors.now) (g.E.Sink.taken c.reads.errors) c.reads.counter s (take c.in-Ok.count c.read.new.into) (g.S.Source.rest c.read.new.self) c.in-Ok-feed.heard.items _ c.in-Err.end told.0 told.1 (g.K.Sink.taken c.answer_events.new.output) (g.E.Sink.taken c.answer_events.new.errors) (λ request old new passed. passed)
    (reads_more s.text c.reads.piece c.read.new.into c.in-Ok.count (g.S.Source.rest c.args.input.now) (g.S.Source.rest c.reads.input) (g.S.Source.rest c.read.new.self) s.reads read.bytes read.rest.taken) (c.in-Ok-feed.ensures.messages s.text s.answering.heard s.answering.represents) told.2 told.3
    (subst (λ hears. TurnsIn conn_rules c.reads.held c.reads.connection.number c.answer_events.new.answers c.answer_events.new.self.number hears told.0 told.1 (Err c.in-Err.end)) c.as_slice.ensures (subst (λ (n : ℕ). TurnsIn (record conn_rules { conn = n }) c.reads.held c.reads.connection.number c.answer_events.new.answers c.answer_events.new.self.number c.as_slice.result.now told.0 told.1 (Err c.in-Err.end)) c.reads.invariant.9 told.4)))

pub returns-in-Err-clause-read_fault : goal.returns-in-Err-clause-read_fault
returns-in-Err-clause-read_fault g c = λ is. absurd (never_reads c.in-Err.end (sym c.pipe_end.ensures ∙ is))

pub returns-in-Err-clause-write_fault : goal.returns-in-Err-clause-write_fault
returns-in-Err-clause-write_fault g c =
    λ is. rose_in_one (g.K.Sink.faults c.args.output.now) (g.K.Sink.faults c.reads.output) (g.K.Sink.faults c.answer_events.new.output) (g.E.Sink.faults c.args.errors.now) (g.E.Sink.faults c.reads.errors) (g.E.Sink.faults c.answer_events.new.errors)
    c.reads.invariant.2 c.reads.invariant.6 (c.in-Err.ensures.faults.failed (ap Err (is_write_fault c.in-Err.end (sym c.pipe_end.ensures ∙ is))))

pub reads-preserved : goal.reads-preserved
reads-preserved g c =
    let conn_rules : Rules (Held g.row.H.Denot) = holder_rules g.H.PodHolder.stands g.H.PodHolder.faults g.H.PodHolder.takes (λ (h : Held g.row.H.Denot). h.holder) (g.C.Clock.may_give c.args.clock.now) (asking_of c.args.options.now.agents) c.args.options.now.trail in
    let s = c.reads.invariant.0 in
    let read = c.in-Ok.ensures in
    let told = c.in-Ok-answer_events.ensures.turns in (
      goes_on conn_rules c.args.held.now c.reads.conn c.reads.held c.reads.connection.number (g.S.Source.rest c.args.input.now) (g.S.Source.rest c.reads.input) (g.K.Sink.taken c.args.output.now) (g.K.Sink.taken c.reads.output) (g.E.Sink.taken c.args.errors.now) (g.E.Sink.taken c.reads.errors) c.reads.counter s (take c.in-Ok.count c.read.new.into) (g.S.Source.rest c.read.new.self) c.feed.new.self c.in-Ok-feed.heard.items _ c.answer_events.new.answers c.answer_events.new.self.number told.0 told.1
          (g.K.Sink.taken c.answer_events.new.output) (g.E.Sink.taken c.answer_events.new.errors) (reads_more s.text c.reads.piece c.read.new.into c.in-Ok.count (g.S.Source.rest c.args.input.now) (g.S.Source.rest c.reads.input) (g.S.Source.rest c.read.new.self) s.reads read.bytes read.rest.taken) (c.in-Ok-feed.ensures.messages s.text s.answering.heard s.answering.represents) (c.in-Ok-feed.ensures.represents s.text s.answering.heard s.answering.represents) told.2 told.3
          (subst (λ hears. TurnsIn conn_rules c.reads.held c.reads.connection.number c.answer_events.new.answers c.answer_events.new.self.number hears told.0 told.1 (Ok tt)) c.as_slice.ensures (subst (λ (n : ℕ). TurnsIn (record conn_rules { conn = n }) c.reads.held c.reads.connection.number c.answer_events.new.answers c.answer_events.new.self.number c.as_slice.result.now told.0 told.1 (Ok tt)) c.reads.invariant.9 told.4))
          (some_read c.read.new.into c.in-Ok.count (search rules) c.if-count-eq0.false),
      omega (arith, c.reads.invariant.1, read.faults.no_fewer),
      omega (arith, c.reads.invariant.2, c.in-Ok-answer_events.ensures.faults.no_fewer),
      omega (arith, c.reads.invariant.3, read.reads.no_fewer),
      one_more (g.S.Source.reads c.args.input.now) (g.S.Source.reads c.reads.input) (g.S.Source.reads c.read.new.self) c.reads.counter c.reads.invariant.4 (omega (arith, c.reads-test.true)) read.reads.no_fewer read.reads.read,
      met_no_end (g.S.Source.ends c.reads.input) (g.S.Source.ends c.read.new.self) c.in-Ok.count c.if-count-eq0.false read.ends.read ∙ c.reads.invariant.5,
      omega (arith, c.reads.invariant.6, c.in-Ok-answer_events.ensures.faults.no_fewer_errors),
      c.in-Ok-answer_events.ensures.few,
      c.in-Ok-answer_events.ensures.ready,
      c.in-Ok-answer_events.ensures.conn ∙ c.reads.invariant.9,
    )

-- each read gave a byte
pub returns-clause-pipes : goal.returns-clause-pipes
returns-clause-pipes g c =
    λ history doubt held.
    let conn_rules : Rules (Held g.row.H.Denot) = holder_rules g.H.PodHolder.stands g.H.PodHolder.faults g.H.PodHolder.takes (λ (h : Held g.row.H.Denot). h.holder) (g.C.Clock.may_give c.args.clock.now) (asking_of c.args.options.now.agents) c.args.options.now.trail in
    bounded conn_rules (g.C.Clock.may_give c.args.clock.now) (asking_of c.args.options.now.agents) c.args.options.now.trail history
    (holder_leaves g.H.PodHolder.stands g.H.PodHolder.faults g.H.PodHolder.takes g.met.H.PodHolder.legal (λ (h : Held g.row.H.Denot). h.holder) (g.C.Clock.may_give c.args.clock.now) (asking_of c.args.options.now.agents) c.args.options.now.trail c.sessions_are_isolated.ensures.items history doubt c.args.held.now c.reads.held held)
    c.args.held.now c.reads.held
    (served_of g.H.PodHolder.stands g.H.PodHolder.faults g.H.PodHolder.takes g.met.H.PodHolder.legal (λ (h : Held g.row.H.Denot). h.holder) (g.C.Clock.may_give c.args.clock.now) (asking_of c.args.options.now.agents) c.args.options.now.trail c.sessions_are_isolated.ensures.items history doubt c.args.held.now c.reads.held held)
    (stopped_of g.H.PodHolder.stands g.H.PodHolder.faults g.H.PodHolder.takes g.met.H.PodHolder.legal (λ (h : Held g.row.H.Denot). h.holder) (g.C.Clock.may_give c.args.clock.now) (asking_of c.args.options.now.agents) c.args.options.now.trail c.sessions_are_isolated.ensures.items history doubt c.args.held.now c.reads.held held)
    c.reads.conn c.reads.connection.number (g.S.Source.rest c.args.input.now) (g.S.Source.rest c.reads.input) (g.K.Sink.taken c.args.output.now) (g.K.Sink.taken c.reads.output) (g.E.Sink.taken c.args.errors.now) (g.E.Sink.taken c.reads.errors) c.reads.counter c.reads.invariant.0 (omega (arith, c.reads-test.false))

-- ---- the counts of the input

pub returns-in_default-clause-counts : goal.returns-in_default-clause-counts
returns-in_default-clause-counts g c = record {
  reads = fails_counted (g.S.Source.reads c.args.input.now) (g.S.Source.reads c.reads.input) (g.S.Source.reads c.read.new.self) c.reads.counter c.reads.invariant.4 c.in_default.ensures.reads.failed;
  limit = λ e. absurd cc;
  ends = c.in_default.ensures.ends.failed ∙ c.reads.invariant.5;
}

pub returns-then-count-eq0-clause-counts : goal.returns-then-count-eq0-clause-counts
returns-then-count-eq0-clause-counts g c =
    let read = c.in-Ok.ensures in
    let counted = one_more (g.S.Source.reads c.args.input.now) (g.S.Source.reads c.reads.input) (g.S.Source.reads c.read.new.self) c.reads.counter c.reads.invariant.4 (omega (arith, c.reads-test.true)) read.reads.no_fewer read.reads.read in
    counts_end c.rest.result c.at_end.result (g.S.Source.reads c.args.input.now) (g.S.Source.reads c.read.new.self) (g.S.Source.ends c.args.input.now) (g.S.Source.ends c.read.new.self)
    c.at_end.ensures (few_counted _ _ _ counted)
    (met_end (g.S.Source.ends c.reads.input) (g.S.Source.ends c.read.new.self) c.in-Ok.count c.if-count-eq0.true read.ends.read ∙ ap next_count c.reads.invariant.5)

pub returns-in_default-feed-clause-counts : goal.returns-in_default-feed-clause-counts
returns-in_default-feed-clause-counts g c =
    let read = c.in-Ok.ensures in
    let counted = one_more (g.S.Source.reads c.args.input.now) (g.S.Source.reads c.reads.input) (g.S.Source.reads c.read.new.self) c.reads.counter c.reads.invariant.4 (omega (arith, c.reads-test.true)) read.reads.no_fewer read.reads.read in
    record {
      reads = few_counted _ _ _ counted;
      limit = λ e. absurd cc;
      ends = met_no_end (g.S.Source.ends c.reads.input) (g.S.Source.ends c.read.new.self) c.in-Ok.count c.if-count-eq0.false read.ends.read ∙ c.reads.invariant.5;
    }

pub returns-in-Err-clause-counts : goal.returns-in-Err-clause-counts
returns-in-Err-clause-counts g c =
    let read = c.in-Ok.ensures in
    let counted = one_more (g.S.Source.reads c.args.input.now) (g.S.Source.reads c.reads.input) (g.S.Source.reads c.read.new.self) c.reads.counter c.reads.invariant.4 (omega (arith, c.reads-test.true)) read.reads.no_fewer read.reads.read in
    subst (λ end. CountsInput end (g.S.Source.reads c.args.input.now) (g.S.Source.reads c.read.new.self) (g.S.Source.ends c.args.input.now) (g.S.Source.ends c.read.new.self)) (sym c.pipe_end.ensures)
    (counts_heard c.in-Err.end (g.S.Source.reads c.args.input.now) (g.S.Source.reads c.read.new.self) (g.S.Source.ends c.args.input.now) (g.S.Source.ends c.read.new.self) (few_counted _ _ _ counted)
    (met_no_end (g.S.Source.ends c.reads.input) (g.S.Source.ends c.read.new.self) c.in-Ok.count c.if-count-eq0.false read.ends.read ∙ c.reads.invariant.5))

pub returns-clause-counts : goal.returns-clause-counts
returns-clause-counts g c = record {
  reads = few_counted _ _ _ c.reads.invariant.4;
  limit = λ e. all_counted _ _ _ c.reads.invariant.4 (omega (arith, c.reads-test.false));
  ends = c.reads.invariant.5;
}
