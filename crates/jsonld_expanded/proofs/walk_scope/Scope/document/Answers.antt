use Rattle.std.proofs.Common.{List, sym, ap, ◌∙◌, subst}
use Rattle.std.proofs.lemmas.Result.{on_ok_weaker}
use Rattle.serde_json.specs.Data.{Data}
use Rattle.serde_json.specs.View.{view, items_view}
use Rattle.serde_json.specs.declared.value.Value.{Value}
use Rattle.serde_json.proofs.Views.{view-Array, view-Object}
use Rattle.jsonld_expanded.specs.Expands.{WalksDocument, WalksEachNodeObject, WalksNodeObject}
use Rattle.jsonld_expanded.specs.Walks.{Advances, Refuses, scope_view}
use Rattle.jsonld_expanded.proofs.walk_scope.Scope.document.Goals as goal

pub returns-in-Array-clause-ok : goal.returns-in-Array-clause-ok
returns-in-Array-clause-ok c =
    let scope = scope_view c.args.self.now in
    let u = c.args.walk.now in
    let v = c.each_node_object.new.walk in
    let is = ap view c.in-Array.is ∙ view-Array c.in-Array.items in
    on_ok_weaker c.each_node_object.result (λ h. subst (λ (d : Data). Advances (WalksDocument scope d) u v) (sym is)
    (subst (λ (xs : List Value). Advances (WalksEachNodeObject scope (items_view xs)) u v) c.deref.ensures.value h)) c.each_node_object.ensures.ok

pub returns-in-Array-clause-out : goal.returns-in-Array-clause-out
returns-in-Array-clause-out c = λ refused.
    let scope = scope_view c.args.self.now in
    let u = c.args.walk.now in
    let is = ap view c.in-Array.is ∙ view-Array c.in-Array.items in
    subst (λ (d : Data). Refuses (WalksDocument scope d) u) (sym is)
    (subst (λ (xs : List Value). Refuses (WalksEachNodeObject scope (items_view xs)) u) c.deref.ensures.value (c.each_node_object.ensures.out refused))

pub returns-in-Object-clause-ok : goal.returns-in-Object-clause-ok
returns-in-Object-clause-ok c =
    let scope = scope_view c.args.self.now in
    let u = c.args.walk.now in
    let v = c.node_object.new.walk in
    let is = ap view c.in-Object.is ∙ view-Object c.in-Object._members in
    on_ok_weaker c.node_object.result (λ h. subst (λ (d : Data). Advances (WalksDocument scope d) u v) (sym is)
    (subst (λ (d : Data). Advances (WalksNodeObject scope d) u v) is h)) c.node_object.ensures.ok

pub returns-in-Object-clause-out : goal.returns-in-Object-clause-out
returns-in-Object-clause-out c = λ refused.
    let scope = scope_view c.args.self.now in
    let u = c.args.walk.now in
    let is = ap view c.in-Object.is ∙ view-Object c.in-Object._members in
    subst (λ (d : Data). Refuses (WalksDocument scope d) u) (sym is)
    (subst (λ (d : Data). Refuses (WalksNodeObject scope d) u) is (c.node_object.ensures.out refused))
