use Rattle.std.proofs.Common.{ℕ, suc, refl, sym, subst}
use Rattle.pod_core.specs.KeeperSteps.{KeeperView}
use Rattle.pod_core.specs.World as world
use Rattle.request_history.proofs.Phases.{with_view}
use Rattle.request_history.proofs.Takes.{held_applies, taken_ready, took_held}
use Rattle.request_history.specs.Parts.{TakesLock, TakesIfAny, TookEvent}
use Rattle.request_history.specs.declared.next_change.Change.TheVariants as outcomes
use Rattle.request_history.proofs.parts_and_events.Parts.take.Goals as goal

pub hold-requires-clause-is_free : goal.hold-requires-clause-is_free
hold-requires-clause-is_free c =
    let t = subst (TakesIfAny c.args.self.now c.args.conn c.args.moment.0) c.in-Held.is c.in-Ok.ensures in
    t.is_free

pub hold-requires-clause-applies : goal.hold-requires-clause-applies
hold-requires-clause-applies c =
    held_applies c.args.self.now c.args.conn c.args.moment.0 c.in-Held.holder (subst (TakesIfAny c.args.self.now c.args.conn c.args.moment.0) c.in-Held.is c.in-Ok.ensures)

pub take_answered-requires-clause-ready : goal.take_answered-requires-clause-ready
take_answered-requires-clause-ready c =
    taken_ready c.args.self.now c.args.conn c.args.moment.0 c.in-Answered.answer (subst (TakesIfAny c.args.self.now c.args.conn c.args.moment.0) c.in-Answered.is c.in-Ok.ensures)

pub returns-in-Held : goal.returns-in-Held
returns-in-Held c =
    let parts = c.args.self.now in
    let t = subst (TakesIfAny parts c.args.conn c.args.moment.0) c.in-Held.is c.in-Ok.ensures in
    subst (λ (v : KeeperView). TookEvent parts (world.take (suc c.args.conn) c.args.moment.0) (with_view parts v)) (sym c.hold.ensures)
    (took_held parts c.requires.fine c.requires.runs c.args.conn c.args.moment.0 c.in-Held.holder t)

pub returns-in-Answered : goal.returns-in-Answered
returns-in-Answered c = c.take_answered.ensures c.args.moment.0 (subst (TakesIfAny c.args.self.now c.args.conn c.args.moment.0) c.in-Answered.is c.in-Ok.ensures)

pub returns-in-Stays : goal.returns-in-Stays
returns-in-Stays c = (refl, subst (TakesIfAny c.args.self.now c.args.conn c.args.moment.0) c.in-Stays.is c.in-Ok.ensures)
