use Rattle.std.proofs.Common.{◌≡◌, ◌+◌, List, [], ◌∷◌, drop, refl, sym, ap, ◌∙◌, subst, arith}
use Rattle.std.proofs.lemmas.List.{drop_all, drop_more}
use Rattle.serde_json.specs.View.{view, items_view}
use Rattle.serde_json.specs.declared.value.Value.{Value}
use Rattle.jsonld_expanded.specs.Expands.{State, WalksEachNodeObject, WalksNodeObject}
use Rattle.jsonld_expanded.specs.Walks.{Advances, Refuses, scope_view}
use Rattle.jsonld_expanded.proofs.Once.{once-node_object}
use Rattle.jsonld_expanded.proofs.Steps.{Leads, advance-same, leads-same, handed, leads-then, refuse-first}
use Rattle.jsonld_expanded.proofs.walk_scope.Scope.each_node_object.Goals as goal

pub loop-item-init : goal.loop-item-init
loop-item-init c = leads-same (WalksEachNodeObject (scope_view c.args.self.now) (items_view c.args.items.now)) c.args.walk.now

pub loop-item-preserved : goal.loop-item-preserved
loop-item-preserved c =
    let l = c.loop-item in
    let scope = scope_view c.args.self.now in
    let xs = c.args.items.now in
    let x = c.item-item.result in
    let here : drop l.item-index xs ≡ x ∷ drop (l.item-index + 1) xs = drop_more xs l.item-index x (omega arith) ∙ ap (λ y. y ∷ drop (l.item-index + 1) xs) (sym c.item-item.is) in
    let Whole : State → State → Type 0 = WalksEachNodeObject scope (items_view xs) in
    leads-then Whole (WalksNodeObject scope (view x)) (WalksEachNodeObject scope (items_view (drop (l.item-index + 1) xs))) c.args.walk.now l.walk c.node_object.new.walk
    (subst (λ (ys : List Value). Leads Whole (WalksEachNodeObject scope (items_view ys)) c.args.walk.now l.walk) here l.invariant)
    (once-node_object scope (view x)) c.in_ok-node_object.ensures.ok

pub returns-in_err-node_object-clause-out : goal.returns-in_err-node_object-clause-out
returns-in_err-node_object-clause-out c = λ refused.
    let l = c.loop-item in
    let scope = scope_view c.args.self.now in
    let xs = c.args.items.now in
    let x = c.item-item.result in
    let here : drop l.item-index xs ≡ x ∷ drop (l.item-index + 1) xs = drop_more xs l.item-index x (omega arith) ∙ ap (λ y. y ∷ drop (l.item-index + 1) xs) (sym c.item-item.is) in
    l.invariant.out (subst (λ (ys : List Value). Refuses (WalksEachNodeObject scope (items_view ys)) l.walk) (sym here)
    (refuse-first (WalksNodeObject scope (view x)) (WalksEachNodeObject scope (items_view (drop (l.item-index + 1) xs))) l.walk (c.in_err-node_object.ensures.out (handed c.from_residual.result c.in_err-node_object.field-0.0 _ c.from_residual.ensures.1 refused))))

pub returns-clause-ok : goal.returns-clause-ok
returns-clause-ok c =
    let l = c.loop-item in
    let scope = scope_view c.args.self.now in
    let xs = c.args.items.now in
    let none : drop l.item-index xs ≡ [] = drop_all l.item-index xs (omega arith) in
    l.invariant.ok l.walk (subst (λ (ys : List Value). Advances (WalksEachNodeObject scope (items_view ys)) l.walk l.walk) (sym none) (advance-same l.walk))
