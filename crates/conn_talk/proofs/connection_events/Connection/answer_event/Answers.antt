use Rattle.std.proofs.Common.{List, ℕ, [], ◌∷◌, ◌++◌, sym, subst}
use Rattle.pod_io.specs.Writing.{ExtendsBy}
use Rattle.pod_io.proofs.Extending.{nothing_added}
use Rattle.conn_talk.specs.Agents.{asking_of}
use Rattle.conn_talk.specs.Talks.{Ends, Turns}
use Rattle.conn_talk.specs.Turns.{Rules}
use Rattle.conn_talk.proofs.TalksLemmas.{invited_turns, refused_turns}
use Rattle.conn_talk.proofs.connection_events.Connection.answer_event.Goals as goal

pub returns-in-Interim-clause-turns : goal.returns-in-Interim-clause-turns
returns-in-Interim-clause-turns g c =
    let rules : Rules g.row.A.Denot = record { conn = c.args.self.now.conn; may_give = g.C.Clock.may_give c.args.setting.now.clock.now; asking = asking_of c.args.setting.now.agents.now; trails = c.args.setting.now.trail; turns = g.A.Answers.turns; passes = g.A.Answers.passes } in
    let wrote = c.write_continue in
    let told = invited_turns rules c.args.answers.now c.args.self.now.number wrote.result (g.K.Output.taken c.args.output.now) (g.K.Output.taken wrote.new.output) wrote.ensures.writes wrote.ensures.end in
    subst (λ one. (text : List ℕ) × (lines : List ℕ) × ExtendsBy text (g.K.Output.taken c.args.output.now) (g.K.Output.taken wrote.new.output) × ExtendsBy lines (g.E.Sink.taken c.args.errors.now) (g.E.Sink.taken c.args.errors.now)
    × Turns rules c.args.answers.now c.args.self.now.number c.args.answers.now c.args.self.now.number (one ∷ []) text lines wrote.result)
    (sym c.in-Interim.is)
    (told.0, [], told.1, nothing_added (g.E.Sink.taken c.args.errors.now), told.2)

pub returns-in-Bad-clause-turns : goal.returns-in-Bad-clause-turns
returns-in-Bad-clause-turns g c =
    let rules : Rules g.row.A.Denot = record { conn = c.args.self.now.conn; may_give = g.C.Clock.may_give c.args.setting.now.clock.now; asking = asking_of c.args.setting.now.agents.now; trails = c.args.setting.now.trail; turns = g.A.Answers.turns; passes = g.A.Answers.passes } in
    let told = refused_turns rules c.args.answers.now c.args.self.now.number c.in-Bad.status c.refuse.result (g.K.Output.taken c.args.output.now) (g.K.Output.taken c.refuse.new.output) c.refuse.ensures.refused in (
      told.0,
      [],
      told.1,
      nothing_added (g.E.Sink.taken c.args.errors.now),
      λ first before written trail t.
          subst (λ one. Ends rules c.refuse.result c.args.self.now.number first c.args.answers.now (before ++ one ∷ []) (written ++ told.0) (trail ++ [])) (sym c.in-Bad.is) (told.2 first before written trail t),
    )
