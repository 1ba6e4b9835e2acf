use Rattle.std.proofs.Common.{[], false, Ok, Err, sym, subst}
use Rattle.std.specs.List.{AllByRecursion}
use Rattle.conn_talk.specs.Agents.{asking_of}
use Rattle.conn_talk.specs.Talks.{MayBeSent, TurnsIn}
use Rattle.http_conn.specs.Messages.{NothingAfterEnd}
use Rattle.pod_io.proofs.Extending.{nothing_added}
use Rattle.pod_serve.proofs.PieceLemmas.{ended, ends_so, goes_on, may_be_sent, unparsed}
use Rattle.pod_serve.proofs.piece_answers.answer_piece.Goals as goal

-- the piece wasn't parsed
pub returns-in_default-clause-answers : goal.returns-in_default-clause-answers
returns-in_default-clause-answers g c = (
  [],
  nothing_added (g.K.Output.taken c.args.output.now),
  λ first text written s. unparsed (record { conn = c.args.connection.now.conn; may_give = g.C.Clock.may_give c.args.clock.now; asking = asking_of c.args.agents.now; trails = false; turns = g.A.Answers.turns; passes = g.A.Answers.passes }) first c.args.parser.now c.args.answers.now c.args.connection.now.number text written s c.args.piece.now,
)

pub answer_events-requires-clause-ends : goal.answer_events-requires-clause-ends
answer_events-requires-clause-ends g c =
    let w = c.requires.answered in
    subst (NothingAfterEnd c.args.connection.now.number) (sym c.as_slice-heard.ensures)
    (ends_so (record { conn = c.args.connection.now.conn; may_give = g.C.Clock.may_give c.args.clock.now; asking = asking_of c.args.agents.now; trails = false; turns = g.A.Answers.turns; passes = g.A.Answers.passes }) w.0 c.args.parser.now c.args.answers.now c.args.connection.now.number w.1 w.2 w.3 c.args.piece.now c.in-Ok.heard.items _ (c.in-Ok.ensures.messages w.1 w.3.events w.3.represents))

pub answer_events-requires-clause-statuses : goal.answer_events-requires-clause-statuses
answer_events-requires-clause-statuses g c =
    let w = c.requires.answered in
    subst (AllByRecursion MayBeSent) (sym c.as_slice-heard.ensures)
    (may_be_sent (record { conn = c.args.connection.now.conn; may_give = g.C.Clock.may_give c.args.clock.now; asking = asking_of c.args.agents.now; trails = false; turns = g.A.Answers.turns; passes = g.A.Answers.passes }) w.0 c.args.parser.now c.args.answers.now c.args.connection.now.number w.1 w.2 w.3 c.args.piece.now c.in-Ok.heard.items _ (c.in-Ok.ensures.messages w.1 w.3.events w.3.represents))

-- all events were answered
pub returns-in-Ok-answer_events-clause-answers : goal.returns-in-Ok-answer_events-clause-answers
returns-in-Ok-answer_events-clause-answers g c =
    let t = c.in-Ok-answer_events.ensures.turns in (
      t.0,
      t.2,
      λ first text written s. goes_on (record { conn = c.args.connection.now.conn; may_give = g.C.Clock.may_give c.args.clock.now; asking = asking_of c.args.agents.now; trails = false; turns = g.A.Answers.turns; passes = g.A.Answers.passes }) first c.args.parser.now c.args.answers.now c.args.connection.now.number text written s c.args.piece.now c.in-Ok.heard.items _ (c.in-Ok.ensures.messages text s.events s.represents)
          c.feed.new.self (c.in-Ok.ensures.represents text s.events s.represents) c.answer_events.new.answers c.answer_events.new.self.number t.0 t.1
          (subst (λ hears. TurnsIn (record { conn = c.args.connection.now.conn; may_give = g.C.Clock.may_give c.args.clock.now; asking = asking_of c.args.agents.now; trails = false; turns = g.A.Answers.turns; passes = g.A.Answers.passes }) c.args.answers.now c.args.connection.now.number c.answer_events.new.answers c.answer_events.new.self.number hears t.0 t.1 (Ok tt)) c.as_slice-heard.ensures t.4),
    )

-- the connection ended
pub returns-clause-answers : goal.returns-clause-answers
returns-clause-answers g c =
    let t = c.in-Err.ensures.turns in (
      t.0,
      t.2,
      λ first text written s. ended (record { conn = c.args.connection.now.conn; may_give = g.C.Clock.may_give c.args.clock.now; asking = asking_of c.args.agents.now; trails = false; turns = g.A.Answers.turns; passes = g.A.Answers.passes }) first c.args.parser.now c.args.answers.now c.args.connection.now.number text written s c.args.piece.now c.in-Ok.heard.items _ (c.in-Ok.ensures.messages text s.events s.represents)
          c.answer_events.new.answers c.answer_events.new.self.number c.in-Err.end t.0 t.1
          (subst (λ hears. TurnsIn (record { conn = c.args.connection.now.conn; may_give = g.C.Clock.may_give c.args.clock.now; asking = asking_of c.args.agents.now; trails = false; turns = g.A.Answers.turns; passes = g.A.Answers.passes }) c.args.answers.now c.args.connection.now.number c.answer_events.new.answers c.answer_events.new.self.number hears t.0 t.1 (Err c.in-Err.end)) c.as_slice-heard.ensures t.4),
    )
