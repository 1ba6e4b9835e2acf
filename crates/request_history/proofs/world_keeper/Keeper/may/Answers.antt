use Rattle.std.proofs.Common.{◌∙◌, Bool, ap, sym}
use Rattle.pod_core.specs.KeeperSteps.{KeeperView}
use Rattle.request_history.proofs.MaySteps.{may_no, may_yes}
use Rattle.request_history.specs.Phases.{may_now}
use Rattle.request_history.proofs.world_keeper.Keeper.may.Goals as goal

pub returns-clause-yes : goal.returns-clause-yes
returns-clause-yes c = λ t.
    let i = c.self.inside in
    let tested = c.may_now.ensures ∙ (λ k. may_now (c.is_some-held.ensures k) i.stage (c.is_some-doubtful.ensures k) c.args.step) in
    may_yes c.args.self.now i.holder i.stage i.doubt c.args.step (sym (ap (λ (v : KeeperView). v.phase) c.self.view_is)) (sym (ap (λ (v : KeeperView). v.doubt) c.self.view_is)) (sym tested ∙ t)

pub returns-clause-no : goal.returns-clause-no
returns-clause-no c = λ f.
    let i = c.self.inside in
    let tested = c.may_now.ensures ∙ (λ k. may_now (c.is_some-held.ensures k) i.stage (c.is_some-doubtful.ensures k) c.args.step) in
    may_no c.args.self.now i.holder i.stage i.doubt c.args.step (sym (ap (λ (v : KeeperView). v.phase) c.self.view_is)) (sym (ap (λ (v : KeeperView). v.doubt) c.self.view_is)) (sym tested ∙ f)
