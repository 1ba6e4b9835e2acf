use Rattle.std.proofs.Common.{◌∙◌, ap}
use Rattle.pod_core.specs.KeeperSteps.{KeeperView}
use Rattle.pod_core.specs.WorldImages.{journal_of}
use Rattle.request_history.proofs.world_keeper.Keeper.journal.Goals as goal

pub returns : goal.returns
returns c = c.self.invariant.journal_is ∙ ap (λ (v : KeeperView). journal_of v.history) c.self.view_is
