use Rattle.std.proofs.Common.{◌∙◌, false, Option, subst, sym}
use Rattle.pod_core.specs.KeeperSteps as keeper
use Rattle.pod_core.specs.KeeperSteps.{Holder, KeeperStep}
use Rattle.request_history.proofs.KeeperMoves.{doubted_step, view_of, with_pending}
use Rattle.request_history.specs.Keepers.{IsKeeper, history_of}
use Rattle.request_history.specs.Phases.{phase_of}
use Rattle.request_history.proofs.world_keeper.Keeper.doubt_entry.Goals as goal

pub invariant_of-self : goal.invariant_of-self
invariant_of-self c =
    let i = c.self.inside in
    let here = history_of i.first i.entries.items in
    subst (λ (o : Option Holder). IsKeeper here i.later.items i.journal (phase_of o i.stage)) (sym c.replace.ensures.after)
    (with_pending here i.later.items i.journal (phase_of i.holder i.stage) keeper.free c.self.invariant tt)

pub returns : goal.returns
returns c =
    let i = c.self.inside in
    let here = history_of i.first i.entries.items in
    subst (λ (o : Option Holder). KeeperStep c.args.self.now (keeper.gate false) (view_of here c.entry_of.result (phase_of o i.stage))) (sym c.replace.ensures.after)
    (doubted_step i.holder i.stage c.args.self.now here i.doubt c.self.view_is c.requires c.entry_of.result (λ holder is. c.entry_of.ensures holder (c.replace.ensures.value ∙ is)))
