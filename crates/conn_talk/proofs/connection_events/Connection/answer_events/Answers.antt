use Rattle.std.proofs.Common.{ℕ, refl, [], ◌∷◌, ◌++◌, Ok, Err, append_assoc, ap, sym, subst, ◌∙◌, arith}
use Rattle.std.specs.List.{AllByRecursion}
use Rattle.http_conn.specs.Messages.{NothingAfterEnd}
use Rattle.pod_io.proofs.Extending.{extends_more, nothing_added}
use Rattle.conn_talk.specs.Agents.{asking_of}
use Rattle.conn_talk.specs.Talks.{MayBeSent, Turns}
use Rattle.conn_talk.specs.Turns.{Rules}
use Rattle.conn_talk.proofs.HeardLemmas.{ends_next, none_left}
use Rattle.conn_talk.proofs.TalksLemmas.{none_behind, nothing_turned, turns_behind}
use Rattle.conn_talk.proofs.connection_events.Connection.answer_events.Goals as goal

pub loop-one-init : goal.loop-one-init
loop-one-init g c =
    let rules : Rules g.row.A.Denot = record { conn = c.args.self.now.conn; may_give = g.C.Clock.may_give c.args.clock.now; asking = asking_of c.args.agents.now; trails = c.args.trail; turns = g.A.Answers.turns; passes = g.A.Answers.passes } in (
      (
        [],
        refl,
        (
          [],
          [],
          nothing_added (g.K.Output.taken c.args.output.now),
          nothing_added (g.E.Sink.taken c.args.errors.now),
          nothing_turned rules c.args.answers.now c.args.self.now.number,
        ),
      ),
      c.requires.few,
      c.requires.ends,
      c.requires.statuses,
      omega arith,
      omega arith,
      c.requires.ready,
      refl,
      g.met.K.Output.still c.args.output.now,
    )

-- the connection ended with this one
pub returns-in-Err-clause-turns : goal.returns-in-Err-clause-turns
returns-in-Err-clause-turns g c =
    let rules : Rules g.row.A.Denot = record { conn = c.args.self.now.conn; may_give = g.C.Clock.may_give c.args.clock.now; asking = asking_of c.args.agents.now; trails = c.args.trail; turns = g.A.Answers.turns; passes = g.A.Answers.passes } in
    let i = c.loop-one.invariant in
    let done = i.0.0 in
    let one = c.in-Some.one.now in
    let more = c.in-Some.more.now in
    let cut = c.in-Some.ensures.cases.0 in
    let told = c.in-Err.ensures.turns in (
      i.0.2.0 ++ told.0,
      i.0.2.1 ++ told.1,
      extends_more (g.K.Output.taken c.args.output.now) (g.K.Output.taken c.loop-one.output) (g.K.Output.taken c.answer_event.new.output) i.0.2.0 told.0 i.0.2.2 told.2,
      extends_more (g.E.Sink.taken c.args.errors.now) (g.E.Sink.taken c.loop-one.errors) (g.E.Sink.taken c.answer_event.new.errors) i.0.2.1 told.1 i.0.2.3 told.3,
      record {
        front = done ++ one ∷ [];
        rest = more;
        cut = append_assoc done (one ∷ []) more ∙ ap (λ rest. done ++ rest) (sym cut) ∙ i.0.1;
        turns = turns_behind rules c.args.answers.now c.loop-one.answers c.answer_event.new.answers c.args.self.now.number c.loop-one.self.number c.answer_event.new.self.number done (one ∷ []) i.0.2.0 told.0 i.0.2.1 told.1 (Err c.in-Err.end) i.0.2.4
            (subst (λ (n : ℕ). Turns (record rules { conn = n }) c.loop-one.answers c.loop-one.self.number c.answer_event.new.answers c.answer_event.new.self.number (one ∷ []) told.0 told.1 (Err c.in-Err.end)) i.7 told.4);
        over = none_behind c.loop-one.self.number one more c.in-Err.end (subst (NothingAfterEnd c.loop-one.self.number) cut i.2) c.in-Err.ensures.over;
      },
    )

pub returns-in-Err-clause-follows : goal.returns-in-Err-clause-follows
returns-in-Err-clause-follows g c = g.met.K.Output.joins c.args.output.now c.loop-one.output c.answer_event.new.output c.loop-one.invariant.8 c.in-Err.ensures.follows

pub loop-one-preserved : goal.loop-one-preserved
loop-one-preserved g c =
    let rules : Rules g.row.A.Denot = record { conn = c.args.self.now.conn; may_give = g.C.Clock.may_give c.args.clock.now; asking = asking_of c.args.agents.now; trails = c.args.trail; turns = g.A.Answers.turns; passes = g.A.Answers.passes } in
    let i = c.loop-one.invariant in
    let done = i.0.0 in
    let one = c.in-Some.one.now in
    let more = c.in-Some.more.now in
    let cut = c.in-Some.ensures.cases.0 in
    let told = c.in-Ok.ensures.turns in (
      (
        done ++ one ∷ [],
        append_assoc done (one ∷ []) more ∙ ap (λ rest. done ++ rest) (sym cut) ∙ i.0.1,
        (
          i.0.2.0 ++ told.0,
          i.0.2.1 ++ told.1,
          extends_more (g.K.Output.taken c.args.output.now) (g.K.Output.taken c.loop-one.output) (g.K.Output.taken c.answer_event.new.output) i.0.2.0 told.0 i.0.2.2 told.2,
          extends_more (g.E.Sink.taken c.args.errors.now) (g.E.Sink.taken c.loop-one.errors) (g.E.Sink.taken c.answer_event.new.errors) i.0.2.1 told.1 i.0.2.3 told.3,
          turns_behind rules c.args.answers.now c.loop-one.answers c.answer_event.new.answers c.args.self.now.number c.loop-one.self.number c.answer_event.new.self.number done (one ∷ []) i.0.2.0 told.0 i.0.2.1 told.1 (Ok tt) i.0.2.4
              (subst (λ (n : ℕ). Turns (record rules { conn = n }) c.loop-one.answers c.loop-one.self.number c.answer_event.new.answers c.answer_event.new.self.number (one ∷ []) told.0 told.1 (Ok tt)) i.7 told.4),
        ),
      ),
      c.in-Ok.ensures.few,
      subst (λ n. NothingAfterEnd n more) (sym c.in-Ok.ensures.number) (ends_next c.loop-one.self.number one more (subst (NothingAfterEnd c.loop-one.self.number) cut i.2)),
      (subst (AllByRecursion MayBeSent) cut i.3).1,
      omega (arith, i.4, c.in-Ok.ensures.faults.no_fewer),
      omega (arith, i.5, c.in-Ok.ensures.faults.no_fewer_errors),
      c.in-Ok.ensures.ready,
      c.in-Ok.ensures.conn ∙ i.7,
      g.met.K.Output.joins c.args.output.now c.loop-one.output c.answer_event.new.output i.8 c.in-Ok.ensures.follows,
    )

-- all was answered
pub returns-clause-turns : goal.returns-clause-turns
returns-clause-turns g c =
    let i = c.loop-one.invariant in (
      i.0.2.0,
      i.0.2.1,
      i.0.2.2,
      i.0.2.3,
      record {
        front = i.0.0;
        rest = c.loop-one.rest.now;
        cut = i.0.1;
        turns = i.0.2.4;
        over = none_left c.loop-one.rest.now c.in_default.ensures.cases;
      },
    )
