use Rattle.std.proofs.Common.{◌+◌, [], ◌∷◌, ◌++◌, sym, subst, ◌∙◌}
use Rattle.pod_base.specs.declared.heard.Heard.TheVariants as heard
use Rattle.conn_talk.specs.Agents.{asking_of}
use Rattle.conn_talk.specs.Talks.{Ends}
use Rattle.conn_talk.specs.Turns.{Rules}
use Rattle.conn_talk.proofs.TalksLemmas.{counts_end, end_of, ends_last, ends_upgraded_so, goes_on, over_last, over_stop, stays_few, stopped_turns}
use Rattle.conn_talk.proofs.TurnLemmas.{turned_now, turned_so}
use Rattle.conn_talk.proofs.connection_events.Connection.answer_flushed.Goals as goal

-- the request switched protocols
pub returns-then-upgraded-clause-turns : goal.returns-then-upgraded-clause-turns
returns-then-upgraded-clause-turns g c =
    let rules : Rules g.row.A.Denot = record { conn = c.args.self.now.conn; may_give = g.C.Clock.may_give c.args.setting.now.clock.now; asking = asking_of c.args.setting.now.agents.now; trails = c.args.setting.now.trail; turns = g.A.Answers.turns; passes = g.A.Answers.passes } in
    let told = c.in-Ok.ensures.came in
    let turned = turned_now rules c.args.answers.now c.answer_one.new.answers c.args.request.now (c.args.self.now.number + 1) c.clock_moment-moment.result told.0 told.1 told.2 c.clock_moment-moment.ensures told.3 in
    let switched = sym told.5 ∙ c.if-upgraded.true in (
      told.0,
      told.1,
      told.4.whole.0,
      told.4.whole.1,
      λ first before written trail t. ends_upgraded_so rules first c.args.answers.now c.args.self.now.number before written trail t c.answer_one.new.answers c.args.request.now told.0 told.1 told.2 turned switched,
    )

-- the last request was answered
pub returns-then-last-clause-turns : goal.returns-then-last-clause-turns
returns-then-last-clause-turns g c =
    let rules : Rules g.row.A.Denot = record { conn = c.args.self.now.conn; may_give = g.C.Clock.may_give c.args.setting.now.clock.now; asking = asking_of c.args.setting.now.agents.now; trails = c.args.setting.now.trail; turns = g.A.Answers.turns; passes = g.A.Answers.passes } in
    let told = c.in-Ok.ensures.came in
    let turned = turned_now rules c.args.answers.now c.answer_one.new.answers c.args.request.now (c.args.self.now.number + 1) c.clock_moment-moment.result told.0 told.1 told.2 c.clock_moment-moment.ensures told.3 in
    let plain = sym told.5 ∙ c.if-upgraded.false in
    let last = sym c.closes_after-last.ensures ∙ c.if-last.true in (
      told.0,
      told.1,
      told.4.whole.0,
      told.4.whole.1,
      λ first before written trail t.
          subst (λ end. Ends rules end c.args.self.now.number first c.answer_one.new.answers (before ++ heard.Request c.args.request.now ∷ []) (written ++ told.0) (trail ++ told.1)) (sym c.end_after.ensures)
          (ends_last rules first c.args.answers.now c.args.self.now.number before written trail t c.answer_one.new.answers c.args.request.now told.0 told.1 told.2 turned plain last c.requires.few),
    )

-- another was answered
pub returns-else-last-clause-turns : goal.returns-else-last-clause-turns
returns-else-last-clause-turns g c =
    let rules : Rules g.row.A.Denot = record { conn = c.args.self.now.conn; may_give = g.C.Clock.may_give c.args.setting.now.clock.now; asking = asking_of c.args.setting.now.agents.now; trails = c.args.setting.now.trail; turns = g.A.Answers.turns; passes = g.A.Answers.passes } in
    let told = c.in-Ok.ensures.came in
    let turned = turned_now rules c.args.answers.now c.answer_one.new.answers c.args.request.now (c.args.self.now.number + 1) c.clock_moment-moment.result told.0 told.1 told.2 c.clock_moment-moment.ensures told.3 in
    let plain = sym told.5 ∙ c.if-upgraded.false in
    let others = sym c.closes_after-last.ensures ∙ c.if-last.false in (
      told.0,
      told.1,
      told.4.whole.0,
      told.4.whole.1,
      λ first before written trail t. goes_on rules first c.args.answers.now c.args.self.now.number before written trail t c.answer_one.new.answers c.args.request.now told.0 told.1 told.2 turned plain others,
    )

pub returns-else-last-clause-few : goal.returns-else-last-clause-few
returns-else-last-clause-few g c =
    stays_few c.args.self.now.number c.args.request.now c.requires.few (sym c.closes_after-last.ensures ∙ c.if-last.false)

pub returns-then-last-clause-over : goal.returns-then-last-clause-over
returns-then-last-clause-over g c =
    over_last c.args.self.now.number c.args.request.now c.end_after.result c.end_after.ensures (end_of c.args.self.now.number c.args.request.now (sym c.closes_after-last.ensures ∙ c.if-last.true))

-- a write failed, no memory was left for the line, or the request had no place
pub returns-in-Err-clause-turns : goal.returns-in-Err-clause-turns
returns-in-Err-clause-turns g c =
    let rules : Rules g.row.A.Denot = record { conn = c.args.self.now.conn; may_give = g.C.Clock.may_give c.args.setting.now.clock.now; asking = asking_of c.args.setting.now.agents.now; trails = c.args.setting.now.trail; turns = g.A.Answers.turns; passes = g.A.Answers.passes } in
    stopped_turns rules c.args.answers.now c.answer_one.new.answers c.args.self.now.number c.args.self.now.number c.args.request.now c.in-Err.end
    (g.K.Output.taken c.args.output.now) (g.K.Output.taken c.answer_one.new.output) (g.E.Sink.taken c.args.errors.now) (g.E.Sink.taken c.answer_one.new.errors)
    (turned_so rules c.args.answers.now c.answer_one.new.answers c.args.request.now (c.args.self.now.number + 1) c.clock_moment-moment.result c.in-Err.end _ _ _ _ _ c.clock_moment-moment.ensures c.in-Err.ensures.came) c.in-Err.ensures.ends

pub returns-in-Err-clause-over : goal.returns-in-Err-clause-over
returns-in-Err-clause-over g c = over_stop c.args.self.now.number c.args.request.now c.in-Err.end c.in-Err.ensures.ends

pub returns-in-Err-clause-faults : goal.returns-in-Err-clause-faults
returns-in-Err-clause-faults g c = counts_end c.in-Err.end _ _ _ _ c.in-Err.ensures.faults
