use Rattle.std.proofs.Common.{◌≡◌, List, ap, refl, rules, subst}
use Rattle.pod_command.specs.declared.entry.Entry.{Entry}
use mathlib.Core.List.{IsPrefix}
use Rattle.pod_base.proofs.Prefixes.{prefix_same, prefix_trans}
use Rattle.published_view.specs.LookerState.{LookerState}
use Rattle.pod_live.proofs.session.meet_at.Goals as goal

pub returns-then-is_prefix_of-clause-later : goal.returns-then-is_prefix_of-clause-later
returns-then-is_prefix_of-clause-later g c =
    subst (λ (xs : List Entry). IsPrefix xs c.look_until.new.looker.seen) (ap (λ (s : LookerState Entry). s.seen) c.learn.ensures.rest) (prefix_trans _ _ _ c.loop.invariant.2 c.look_until.ensures.later)

pub returns-then-is_prefix_of-clause-seen : goal.returns-then-is_prefix_of-clause-seen
returns-then-is_prefix_of-clause-seen g c =
    let is : c.seen.result.now ≡ c.look_until.new.looker.seen = search rules in
    let no_more : IsPrefix c.look_until.new.looker.seen c.args.front.now = subst (λ (xs : List Entry). IsPrefix xs c.args.front.now) is (c.if-is_prefix_of.ensures.prefix refl) in
    prefix_same _ _ no_more (prefix_trans _ _ _ c.loop.invariant.3 c.look_until.ensures.told)
