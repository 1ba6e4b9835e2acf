use Rattle.std.proofs.Common.{true, OnOk, subst, sym}
use Rattle.pod_core.specs.KeeperSteps.{KeeperStep}
use Rattle.request_history.specs.Phases.{MayStep, step_event}
use Rattle.request_history.specs.declared.lock_holder_steps.Step.{Step}
use Rattle.request_history.proofs.world_keeper.Keeper.proceed.Goals as goal

pub write-requires : goal.write-requires
write-requires c = subst (MayStep c.args.self.now) c.in-Body.is c.requires

pub open-requires : goal.open-requires
open-requires c = subst (MayStep c.args.self.now) c.in-Gate.is c.requires

pub returns-in-Repair-clause-step : goal.returns-in-Repair-clause-step
returns-in-Repair-clause-step c =
    let m = subst (MayStep c.args.self.now) c.in-Repair.is c.requires in
    subst (λ (s : Step). KeeperStep c.args.self.now (step_event s true) c.close_gate.new.self) (sym c.in-Repair.is)
    (record { holder = m.0; is_taken = m.1; entry = m.2.0; in_doubt = m.2.1; new_is = c.close_gate.ensures })

pub returns-in-Body-clause-step : goal.returns-in-Body-clause-step
returns-in-Body-clause-step c = subst (λ (s : Step). KeeperStep c.args.self.now (step_event s true) c.write.new.self) (sym c.in-Body.is) c.write.ensures

pub returns-in-Gate-clause-step : goal.returns-in-Gate-clause-step
returns-in-Gate-clause-step c = subst (λ (s : Step). OnOk c.open.result (KeeperStep c.args.self.now (step_event s true) c.open.new.self)) (sym c.in-Gate.is) c.open.ensures.step
