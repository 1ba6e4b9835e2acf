use Rattle.std.proofs.Common.{◌≡◌, ◌∙◌, ◌++◌, ◌∷◌, ap, subst, sym}
use Rattle.journal_log.specs.Frames.{sized}
use Rattle.pod_core.specs.KeeperSteps as keeper
use Rattle.pod_core.specs.KeeperSteps.{KeeperView}
use Rattle.pod_core.specs.WorldImages.{journal_of}
use Rattle.request_history.proofs.KeeperMoves.{applies_to, end_place, last_version, opens}
use Rattle.request_history.proofs.Keepers.{pending_holder}
use Rattle.request_history.specs.Keepers.{AppliesAtEnd, IsPending}
use Rattle.request_history.proofs.world_keeper.Keeper.opening.Goals as goal

pub version-last-requires : goal.version-last-requires
version-last-requires c = end_place c.args.self.now.history c.end.result c.end.ensures

pub after_entry-requires : goal.after_entry-requires
after_entry-requires c =
    let view = c.args.self.now in
    let at = last_version view.history c.end.result c.version-last.result.now c.end.ensures (record { pod = c.version-last.ensures.pod; next = c.version-last.ensures.next }) in
    let p = subst (λ (v : KeeperView). IsPending v.history v.phase) c.self.view_is c.self.invariant.pending in
    applies_to view.history c.args.holder.now c.version-last.result.now c.in_ok-entry.entry at (c.in_ok-entry.ensures ∙ c.entry-recorded.ensures) (pending_holder view.history view.phase c.args.holder.now c.requires p)

pub returns : goal.returns
returns c =
    let view = c.args.self.now in
    let at = last_version view.history c.end.result c.version-last.result.now c.end.ensures (record { pod = c.version-last.ensures.pod; next = c.version-last.ensures.next }) in
    let before = c.as_slice-before.ensures ∙ c.self.invariant.journal_is ∙ ap (λ (v : KeeperView). journal_of v.history) c.self.view_is in
    let body = c.body.ensures in
    opens view c.args.holder.now c.in_ok-entry.entry c.version-last.result.now c.in_ok-version.version c.in_ok-journal.journal c.requires (c.in_ok-entry.ensures ∙ c.entry-recorded.ensures) at c.in_ok-version.ensures
    (rw (before, body, c.entry-recorded.ensures) at c.in_ok-journal.ensures)
