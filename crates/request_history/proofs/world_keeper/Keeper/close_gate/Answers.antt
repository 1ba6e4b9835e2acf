use Rattle.std.proofs.Common.{None, ap}
use Rattle.pod_core.specs.KeeperSteps.{KeeperView}
use Rattle.request_history.proofs.world_keeper.Keeper.close_gate.Goals as goal

pub invariant_of-self : goal.invariant_of-self
invariant_of-self c = c.self.invariant

pub returns : goal.returns
returns c = ap (λ (v : KeeperView). record v { doubt = None }) c.self.view_is
