use Rattle.std.proofs.Common.{[], sym, subst}
use Rattle.pod_io.specs.Writing.{ExtendsBy}
use Rattle.pod_io.proofs.Extending.{nothing_added}
use Rattle.conn_talk.specs.Agents.{asking_of}
use Rattle.conn_talk.specs.Turns.{Rules}
use Rattle.conn_talk.proofs.TalksLemmas.{counts_since, over_fault, unflushed_turns}
use Rattle.conn_talk.proofs.connection_events.Connection.answer.Goals as goal

-- nothing that it might wait for is held back
pub returns-in-Ok-clause-turns : goal.returns-in-Ok-clause-turns
returns-in-Ok-clause-turns g c =
    let told = c.answer_flushed.ensures.turns in (
      told.0,
      told.1,
      subst (λ was. ExtendsBy told.0 was (g.K.Output.taken c.answer_flushed.new.output)) c.in-Ok.ensures.taken told.2,
      told.3,
      told.4,
    )

pub returns-in-Ok-clause-faults : goal.returns-in-Ok-clause-faults
returns-in-Ok-clause-faults g c = counts_since c.answer_flushed.result _ _ _ _ _ c.in-Ok.ensures.faults.no_fewer c.answer_flushed.ensures.faults

pub returns-in-Ok-clause-follows : goal.returns-in-Ok-clause-follows
returns-in-Ok-clause-follows g c = g.met.K.Output.joins c.args.output.now c.flush_before.new.output c.answer_flushed.new.output c.in-Ok.ensures.follows c.answer_flushed.ensures.follows

-- it couldn't be sent
pub returns-in-Err-clause-turns : goal.returns-in-Err-clause-turns
returns-in-Err-clause-turns g c =
    let rules : Rules g.row.A.Denot = record { conn = c.args.self.now.conn; may_give = g.C.Clock.may_give c.args.setting.now.clock.now; asking = asking_of c.args.setting.now.agents.now; trails = c.args.setting.now.trail; turns = g.A.Answers.turns; passes = g.A.Answers.passes } in (
      [],
      [],
      subst (ExtendsBy [] (g.K.Output.taken c.args.output.now)) (sym c.in-Err.ensures.taken) (nothing_added (g.K.Output.taken c.args.output.now)),
      nothing_added (g.E.Sink.taken c.args.errors.now),
      unflushed_turns rules c.args.answers.now c.args.self.now.number c.args.request.now c.in-Err.end c.in-Err.ensures.end,
    )

pub returns-in-Err-clause-over : goal.returns-in-Err-clause-over
returns-in-Err-clause-over g c = over_fault c.args.self.now.number c.args.request.now c.in-Err.end c.in-Err.ensures.end
