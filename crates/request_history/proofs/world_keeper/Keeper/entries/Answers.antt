use Rattle.std.proofs.Common.{ap}
use Rattle.pod_core.specs.KeeperSteps.{KeeperView}
use Rattle.request_history.proofs.world_keeper.Keeper.entries.Goals as goal

pub returns : goal.returns
returns c = ap (λ (v : KeeperView). v.history.entries) c.self.view_is
