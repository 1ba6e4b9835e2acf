use Rattle.std.proofs.Common.{ℕ, List, subst, sym}
use Rattle.request_history.specs.Keepers.{IsKeeper, history_of}
use Rattle.request_history.specs.Phases.{phase_of}
use Rattle.request_history.specs.declared.lock_holder_steps.Stage.TheVariants as stages
use Rattle.request_history.proofs.KeeperMoves.{opened_kept, opened_step, stayed_kept, stayed_view}
use Rattle.request_history.proofs.world_keeper.Keeper.open_gate.Goals as goal

pub invariant_of-self : goal.invariant_of-self
invariant_of-self c =
    let i = c.self.inside in
    subst (λ (j : List ℕ). IsKeeper (history_of i.first c.append.new.entries.items) c.append.new.later.items j (phase_of i.holder stages.Opened)) (sym c.in-Ok.ensures.journal)
    (opened_kept i.first i.entries.items i.doubt i.holder i.stage c.args.self.now c.self.view_is c.args.opening c.requires c.append.new.entries.items c.in-Ok.ensures.entries i.later.items c.append.new.later.items i.journal c.self.invariant c.in-Ok.ensures.later)

pub returns-in-Ok-clause-step : goal.returns-in-Ok-clause-step
returns-in-Ok-clause-step c =
    let i = c.self.inside in
    opened_step i.first i.entries.items i.doubt i.holder i.stage c.args.self.now c.self.view_is c.args.opening c.requires c.append.new.entries.items c.in-Ok.ensures.entries

pub invariant_of-self-in-Err : goal.invariant_of-self-in-Err
invariant_of-self-in-Err c =
    let i = c.self.inside in
    stayed_kept i.first i.entries.items i.doubt i.holder i.stage c.args.self.now c.self.view_is c.append.new.entries.items c.in-Err.ensures.entries_stay i.later.items c.append.new.later.items i.journal c.self.invariant c.in-Err.ensures.later_stay

pub returns-in-Err-clause-unchanged : goal.returns-in-Err-clause-unchanged
returns-in-Err-clause-unchanged c =
    let i = c.self.inside in
    stayed_view i.first i.entries.items i.doubt i.holder i.stage c.args.self.now c.self.view_is c.append.new.entries.items c.in-Err.ensures.entries_stay
