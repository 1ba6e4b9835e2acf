use Rattle.std.proofs.Common.{◌∙◌, ap, subst, sym}
use Rattle.pod_core.specs.KeeperSteps.{KeeperView}
use Rattle.pod_core.specs.WorldImages.{IsAllowedImage}
use Rattle.request_history.specs.Phases.{phase_of}
use Rattle.request_history.proofs.Allowed.{allowed_no, allowed_yes}
use Rattle.request_history.proofs.world_keeper.Keeper.allows.Goals as goal

pub returns-clause-yes : goal.returns-clause-yes
returns-clause-yes c = λ t.
    let i = c.self.inside in
    subst (λ (v : KeeperView). IsAllowedImage v c.args.image.now) c.self.view_is
    (allowed_yes (record { history = record { first = i.first.pod; start = i.first.next; entries = i.entries.items }; doubt = i.doubt; phase = phase_of i.holder i.stage }) c.as_slice-journal.result.now c.args.image.now (c.as_slice-journal.ensures ∙ c.self.invariant.journal_is)
    c.is_closed-closed.result c.doubts-doubted.result c.writes-written.result (sym c.any_of.ensures ∙ t) c.is_closed-closed.ensures.yes c.doubts-doubted.ensures.yes c.writes-written.ensures.yes)

pub returns-clause-no : goal.returns-clause-no
returns-clause-no c = λ f a.
    let i = c.self.inside in
    allowed_no (record { history = record { first = i.first.pod; start = i.first.next; entries = i.entries.items }; doubt = i.doubt; phase = phase_of i.holder i.stage }) c.as_slice-journal.result.now c.args.image.now (c.as_slice-journal.ensures ∙ c.self.invariant.journal_is)
    c.is_closed-closed.result c.doubts-doubted.result c.writes-written.result (sym c.any_of.ensures ∙ f) c.is_closed-closed.ensures.no c.doubts-doubted.ensures.no c.writes-written.ensures.no
    (subst (λ (v : KeeperView). IsAllowedImage v c.args.image.now) (sym c.self.view_is) a)
