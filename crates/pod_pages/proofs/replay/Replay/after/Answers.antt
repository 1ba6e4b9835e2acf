use Rattle.std.proofs.Common.{◌≡◌, ◌∙◌, ℕ, ap, subst}
use Rattle.pod_pages.specs.Effects.{kept_effects}
use Rattle.pod_pages.specs.State.{VersionState, state_after}
use Rattle.pod_pages.proofs.Replaying.{replayed_more}
use Rattle.pod_pages.proofs.replay.Replay.after.Goals as goal

pub returns : goal.returns
returns c =
    let i = c.self.inside in
    replayed_more i.version c.in_ok-version.version c.args.entry.now i.effects.items c.make_room.new.effects.items c.into_next.new.effects.items
    (subst (λ (n : ℕ). kept_effects n c.make_room.new.effects.items ≡ kept_effects n i.effects.items) c.oldest.ensures.oldest c.in_ok-make_room.ensures)
    c.in_ok-version.ensures.version c.in_ok-version.ensures.effects
    ∙ ap (λ (s : VersionState). state_after s c.args.entry.now) c.self.view_is
