use Rattle.std.proofs.Common.{◌≡◌, ◌∙◌, true, false, is_some, not, ap, subst, sym}
use Rattle.pod_core.specs.KeeperSteps as keeper
use Rattle.pod_core.specs.KeeperSteps.{KeeperView}
use Rattle.request_history.proofs.MaySteps.{free_no, free_yes}
use Rattle.request_history.proofs.world_keeper.Keeper.is_free.Goals as goal

pub returns-clause-yes : goal.returns-clause-yes
returns-clause-yes c = λ t.
    sym (ap (λ (v : KeeperView). v.phase) c.self.view_is) ∙ free_yes c.self.inside.holder c.self.inside.stage (c.is_none.ensures ∙ ap not t)

pub returns-clause-no : goal.returns-clause-no
returns-clause-no c = λ f free. free_no c.self.inside.holder c.self.inside.stage (c.is_none.ensures ∙ ap not f) (ap (λ (v : KeeperView). v.phase) c.self.view_is ∙ free)
