use Rattle.std.proofs.Common.{◌∙◌, ap, subst, sym}
use Rattle.pod_core.specs.KeeperSteps.{KeeperView}
use Rattle.request_history.proofs.MaySteps.{opened_no, opened_yes}
use Rattle.request_history.specs.Phases.{IsOpened, is_opened}
use Rattle.request_history.proofs.world_keeper.Keeper.is_opened.Goals as goal

pub returns-clause-yes : goal.returns-clause-yes
returns-clause-yes c = λ t.
    let i = c.self.inside in
    subst (λ (v : KeeperView). IsOpened v.phase) c.self.view_is (opened_yes i.holder i.stage (sym (c.is_opened.ensures ∙ ap (λ b. is_opened b i.stage) c.is_some-held.ensures) ∙ t))

pub returns-clause-no : goal.returns-clause-no
returns-clause-no c = λ f o.
    let i = c.self.inside in
    opened_no i.holder i.stage (sym (c.is_opened.ensures ∙ ap (λ b. is_opened b i.stage) c.is_some-held.ensures) ∙ f) (subst (λ (v : KeeperView). IsOpened v.phase) (sym c.self.view_is) o)
