use Rattle.std.proofs.Common.{refl}
use Rattle.pod_core.specs.KeeperSteps as keeper
use Rattle.request_history.proofs.KeeperMoves.{with_pending, with_phase}
use Rattle.request_history.specs.Keepers.{history_of}
use Rattle.request_history.specs.Phases.{phase_of}
use Rattle.request_history.proofs.world_keeper.Keeper.release.Goals as goal

pub invariant_of-self : goal.invariant_of-self
invariant_of-self c =
    let i = c.self.inside in
    with_pending (history_of i.first i.entries.items) i.later.items i.journal (phase_of i.holder i.stage) keeper.free c.self.invariant tt

pub returns : goal.returns
returns c =
    let i = c.self.inside in
    with_phase (history_of i.first i.entries.items) i.doubt (phase_of i.holder i.stage) keeper.free keeper.free c.args.self.now c.self.view_is refl
