use Rattle.std.proofs.Common.{◌∙◌, ap}
use Rattle.pod_core.specs.KeeperSteps.{Holder}
use Rattle.pod_core.specs.Session.{upgrades}
use Rattle.request_history.proofs.lock_holder.Holder.switches.Goals as goal

pub returns : goal.returns
returns c = c.switches.ensures ∙ ap (λ (h : Holder). upgrades h.item.outcome) c.self.view_is
