use Rattle.request_history.proofs.KeeperMoves.{with_pending, written_pending, written_step}
use Rattle.request_history.specs.Keepers.{history_of}
use Rattle.request_history.specs.Phases.{phase_of}
use Rattle.request_history.specs.declared.lock_holder_steps.Stage.TheVariants as stages
use Rattle.request_history.proofs.world_keeper.Keeper.write.Goals as goal

pub invariant_of-self : goal.invariant_of-self
invariant_of-self c =
    let i = c.self.inside in
    let here = history_of i.first i.entries.items in
    with_pending here i.later.items i.journal (phase_of i.holder i.stage) (phase_of i.holder stages.Written) c.self.invariant
    (written_pending i.holder i.stage c.args.self.now here i.doubt c.self.view_is c.requires c.self.invariant.pending)

pub returns : goal.returns
returns c =
    let i = c.self.inside in
    written_step i.holder i.stage c.args.self.now (history_of i.first i.entries.items) i.doubt c.self.view_is c.requires
