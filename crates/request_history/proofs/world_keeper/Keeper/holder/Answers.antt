use Rattle.std.proofs.Common.{◌∙◌, ap}
use Rattle.pod_core.specs.KeeperSteps.{KeeperView}
use Rattle.pod_core.specs.World.{holder_in}
use Rattle.request_history.proofs.MaySteps.{holder_is}
use Rattle.request_history.proofs.world_keeper.Keeper.holder.Goals as goal

pub returns : goal.returns
returns c = c.as_ref.ensures.value ∙ holder_is c.self.inside.holder c.self.inside.stage ∙ ap (λ (v : KeeperView). holder_in v.phase) c.self.view_is
