use Rattle.std.proofs.Common.{◌∙◌, []}
use Rattle.pod_pages.proofs.Replaying.{edited_bare, edited_effects}
use Rattle.pod_pages.proofs.version.Version.bare_after.Goals as goal

pub returns-clause-version : goal.returns-clause-version
returns-clause-version c =
    edited_bare c.args.self.now c.in_ok-next.next c.into_bare-bare.result.0 c.args.entry.now (c.in_ok-next.ensures [] c.new.ensures.items) c.into_bare-bare.ensures.bare

pub returns-clause-effects : goal.returns-clause-effects
returns-clause-effects c =
    c.into_bare-bare.ensures.effects ∙ edited_effects c.args.self.now c.in_ok-next.next c.args.entry.now c.requires c.next_oldest-oldest.ensures.most (c.in_ok-next.ensures [] c.new.ensures.items)
