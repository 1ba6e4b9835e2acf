use Rattle.std.proofs.Common.{false, subst, sym}
use Rattle.pod_core.specs.KeeperSteps.{KeeperStep}
use Rattle.request_history.specs.Phases.{MayStep, step_event}
use Rattle.request_history.specs.declared.lock_holder_steps.Step.{Step}
use Rattle.request_history.proofs.world_keeper.Keeper.give_up.Goals as goal

pub doubt_entry-requires : goal.doubt_entry-requires
doubt_entry-requires c = subst (MayStep c.args.self.now) c.in-Gate.is c.requires

pub returns-in-Repair : goal.returns-in-Repair
returns-in-Repair c =
    let m = subst (MayStep c.args.self.now) c.in-Repair.is c.requires in
    subst (λ (s : Step). KeeperStep c.args.self.now (step_event s false) c.release.new.self) (sym c.in-Repair.is)
    (record { holder = m.0; is_taken = m.1; entry = m.2.0; in_doubt = m.2.1; new_is = c.release.ensures })

pub returns-in-Body : goal.returns-in-Body
returns-in-Body c =
    let m = subst (MayStep c.args.self.now) c.in-Body.is c.requires in
    subst (λ (s : Step). KeeperStep c.args.self.now (step_event s false) c.release-in-Body.new.self) (sym c.in-Body.is)
    (record { holder = m.0; is_taken = m.1; is_sure = m.2; new_is = c.release-in-Body.ensures })

pub returns-in-Gate : goal.returns-in-Gate
returns-in-Gate c = subst (λ (s : Step). KeeperStep c.args.self.now (step_event s false) c.doubt_entry.new.self) (sym c.in-Gate.is) c.doubt_entry.ensures
