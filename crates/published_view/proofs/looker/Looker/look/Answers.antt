use Rattle.std.proofs.Common.{refl, subst}
use mathlib.Core.List.{IsPrefix}
use Rattle.pod_base.proofs.Prefixes.{prefix_trans}
use Rattle.published_view.specs.LookerState.{LookerState}
use Rattle.published_view.proofs.looker.Looker.look.Goals as goal

pub returns-then-not-is_prefix_of-clause-later : goal.returns-then-not-is_prefix_of-clause-later
returns-then-not-is_prefix_of-clause-later g c =
    subst (λ (s : LookerState g.row.V-Item.Denot). IsPrefix s.seen c.longer-known.result) c.self.view_is c.longer-known.ensures.this

pub returns-then-not-is_prefix_of-clause-told : goal.returns-then-not-is_prefix_of-clause-told
returns-then-not-is_prefix_of-clause-told g c =
    subst (λ (s : LookerState g.row.V-Item.Denot). IsPrefix s.told c.longer-known.result) c.self.view_is c.longer-known.ensures.that

pub returns-in-Ok-clause-later : goal.returns-in-Ok-clause-later
returns-in-Ok-clause-later g c =
    subst (λ (s : LookerState g.row.V-Item.Denot). IsPrefix s.seen c.in-Some.field-0.front) c.self.view_is (prefix_trans _ _ _ c.longer-known.ensures.this (c.if-not-is_prefix_of.ensures.prefix refl))

pub returns-in-Ok-clause-told : goal.returns-in-Ok-clause-told
returns-in-Ok-clause-told g c =
    subst (λ (s : LookerState g.row.V-Item.Denot). IsPrefix s.told c.in-Some.field-0.front) c.self.view_is (prefix_trans _ _ _ c.longer-known.ensures.that (c.if-not-is_prefix_of.ensures.prefix refl))

pub returns-clause-later : goal.returns-clause-later
returns-clause-later g c =
    subst (λ (s : LookerState g.row.V-Item.Denot). IsPrefix s.seen c.in-Some.field-0.front) c.self.view_is (prefix_trans _ _ _ c.longer-known.ensures.this (c.if-not-is_prefix_of.ensures.prefix refl))

pub returns-clause-told : goal.returns-clause-told
returns-clause-told g c =
    subst (λ (s : LookerState g.row.V-Item.Denot). IsPrefix s.told c.in-Some.field-0.front) c.self.view_is (prefix_trans _ _ _ c.longer-known.ensures.that (c.if-not-is_prefix_of.ensures.prefix refl))
