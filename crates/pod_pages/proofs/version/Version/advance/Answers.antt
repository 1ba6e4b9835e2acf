use Rattle.std.proofs.Common.{◌+◌, ◌∙◌, [], Option, sym, ap, subst}
use Rattle.std.specs.Prelude.{IfSome}
use Rattle.pod_rows.specs.Apply.{Applies}
use Rattle.pod_pages.specs.Effects.{oldest_after}
use Rattle.pod_pages.specs.Placings.{IsPlacing}
use Rattle.pod_pages.specs.State.{VersionState, state_after, with_effects}
use Rattle.pod_pages.specs.declared.single_put.Placing.{Placing}
use Rattle.pod_pages.proofs.Placed.{placed_all}
use Rattle.pod_pages.proofs.version.Version.advance.Goals as goal

pub invariant_of-self-in-Some : goal.invariant_of-self-in-Some
invariant_of-self-in-Some c =
    let i = c.self.inside in
    let p : IsPlacing i.rows c.args.entry.now c.in-Some.placing = subst (λ (o : Option Placing). IfSome o (IsPlacing i.rows c.args.entry.now)) c.in-Some.is c.in_ok-placing.ensures in
    let all =
    placed_all i.next i.base i.owner i.rows i.effects.items i.oldest i.table c.args.entry.now c.in-Some.placing c.set.new.self c.clear.new.self.items c.next_oldest-oldest.result
    c.self.invariant
    (subst (λ (s : VersionState). Applies s.pod s.next c.args.entry.now) (sym c.self.view_is) c.requires)
    p c.in_ok-set-in-Some.ensures.put c.clear.ensures.items
    (c.next_oldest-oldest.ensures.oldest ∙ ap (λ (s : VersionState). oldest_after s.oldest (s.next + 1)) (sym c.self.view_is)) in
    all.kept

pub returns-in_ok-set-in-Some-clause-version : goal.returns-in_ok-set-in-Some-clause-version
returns-in_ok-set-in-Some-clause-version c =
    let i = c.self.inside in
    let p : IsPlacing i.rows c.args.entry.now c.in-Some.placing = subst (λ (o : Option Placing). IfSome o (IsPlacing i.rows c.args.entry.now)) c.in-Some.is c.in_ok-placing.ensures in
    let all =
    placed_all i.next i.base i.owner i.rows i.effects.items i.oldest i.table c.args.entry.now c.in-Some.placing c.set.new.self c.clear.new.self.items c.next_oldest-oldest.result
    c.self.invariant
    (subst (λ (s : VersionState). Applies s.pod s.next c.args.entry.now) (sym c.self.view_is) c.requires)
    p c.in_ok-set-in-Some.ensures.put c.clear.ensures.items
    (c.next_oldest-oldest.ensures.oldest ∙ ap (λ (s : VersionState). oldest_after s.oldest (s.next + 1)) (sym c.self.view_is)) in
    all.is ∙ ap (λ (s : VersionState). with_effects [] (state_after s c.args.entry.now)) c.self.view_is
