use Rattle.std.proofs.Common.{◌∙◌, ap}
use Rattle.pod_core.specs.KeeperSteps.{Holder}
use Rattle.pod_core.specs.Output.{item_text}
use Rattle.request_history.proofs.lock_holder.Holder.text.Goals as goal

pub returns : goal.returns
returns c = c.as_slice.ensures ∙ c.self.invariant ∙ ap (λ (h : Holder). item_text h.item) c.self.view_is
