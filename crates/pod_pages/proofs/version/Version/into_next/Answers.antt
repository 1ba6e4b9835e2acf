use Rattle.std.proofs.Common.{◌+◌, ◌∙◌, ◌++◌, List, [], Option, sym, ap, subst}
use Rattle.std.specs.Prelude.{IfSome}
use Rattle.pod_rows.specs.Apply.{Applies}
use Rattle.pod_pages.specs.Effects.{entry_effects, oldest_after}
use Rattle.pod_pages.specs.Placings.{IsPlacing}
use Rattle.pod_pages.specs.State.{VersionState, state_after, with_effects}
use Rattle.pod_pages.specs.declared.entry_effects.Effect.{Effect}
use Rattle.pod_pages.specs.declared.single_put.Placing.{Placing}
use Rattle.pod_pages.proofs.Placed.{entry_placed, placed_all}
use Rattle.pod_pages.proofs.version.Version.into_next.Goals as goal

pub put_placing-requires : goal.put_placing-requires
put_placing-requires c =
    let i = c.self.inside in
    let p : IsPlacing i.rows c.args.entry.now c.in-Some.placing = subst (λ (o : Option Placing). IfSome o (IsPlacing i.rows c.args.entry.now)) c.in-Some.is c.in_ok-placing.ensures in
    let one = entry_placed i.rows c.args.entry.now c.in-Some.placing p in one.replaces

pub invariant_of-result : goal.invariant_of-result
invariant_of-result c =
    let i = c.self.inside in
    let p : IsPlacing i.rows c.args.entry.now c.in-Some.placing = subst (λ (o : Option Placing). IfSome o (IsPlacing i.rows c.args.entry.now)) c.in-Some.is c.in_ok-placing.ensures in
    let all =
    placed_all i.next i.base i.owner i.rows i.effects.items i.oldest i.table c.args.entry.now c.in-Some.placing c.in_ok-rows-in-Some.rows c.new.result.items c.next_oldest-oldest.result
    c.self.invariant
    (subst (λ (s : VersionState). Applies s.pod s.next c.args.entry.now) (sym c.self.view_is) c.requires)
    p c.in_ok-rows-in-Some.ensures.rows c.new.ensures.items
    (c.next_oldest-oldest.ensures.oldest ∙ ap (λ (s : VersionState). oldest_after s.oldest (s.next + 1)) (sym c.self.view_is)) in
    all.kept

pub returns-in_ok-rows-in-Some-clause-version : goal.returns-in_ok-rows-in-Some-clause-version
returns-in_ok-rows-in-Some-clause-version c =
    let i = c.self.inside in
    let p : IsPlacing i.rows c.args.entry.now c.in-Some.placing = subst (λ (o : Option Placing). IfSome o (IsPlacing i.rows c.args.entry.now)) c.in-Some.is c.in_ok-placing.ensures in
    let all =
    placed_all i.next i.base i.owner i.rows i.effects.items i.oldest i.table c.args.entry.now c.in-Some.placing c.in_ok-rows-in-Some.rows c.new.result.items c.next_oldest-oldest.result
    c.self.invariant
    (subst (λ (s : VersionState). Applies s.pod s.next c.args.entry.now) (sym c.self.view_is) c.requires)
    p c.in_ok-rows-in-Some.ensures.rows c.new.ensures.items
    (c.next_oldest-oldest.ensures.oldest ∙ ap (λ (s : VersionState). oldest_after s.oldest (s.next + 1)) (sym c.self.view_is)) in
    all.is ∙ ap (λ (s : VersionState). with_effects [] (state_after s c.args.entry.now)) c.self.view_is

pub returns-in_ok-rows-in-Some-clause-effects : goal.returns-in_ok-rows-in-Some-clause-effects
returns-in_ok-rows-in-Some-clause-effects c =
    let i = c.self.inside in
    let p : IsPlacing i.rows c.args.entry.now c.in-Some.placing = subst (λ (o : Option Placing). IfSome o (IsPlacing i.rows c.args.entry.now)) c.in-Some.is c.in_ok-placing.ensures in
    let one = entry_placed i.rows c.args.entry.now c.in-Some.placing p in
    c.in_ok-rows-in-Some.ensures.effects
    ∙ ap (λ (xs : List Effect). c.args.effects.now.items ++ xs) (sym (one.effects c.args.entry.now.seq))
    ∙ ap (λ (s : VersionState). c.args.effects.now.items ++ entry_effects s.pod c.args.entry.now) c.self.view_is
