use Rattle.std.proofs.Common.{◌≡◌, List, rules, sym, ap, ◌∙◌, subst, string_bytes}
use Rattle.std.proofs.lemmas.Result.{on_ok_weaker}
use Rattle.serde_json.specs.Data.{Data, array, string}
use Rattle.serde_json.specs.View.{view, items_view}
use Rattle.serde_json.specs.declared.value.Value.{Value, the_lemmas}
use Rattle.serde_json.proofs.Views.{view-Array}
use Rattle.jsonld_expanded.specs.Expands.{WalksEachType, WalksType, WalksTypes}
use Rattle.jsonld_expanded.specs.Walks.{Advances, Refuses, scope_view}
use Rattle.jsonld_expanded.proofs.walk_scope.Scope.types.Goals as goal

pub returns-in-Array-clause-ok : goal.returns-in-Array-clause-ok
returns-in-Array-clause-ok c =
    let scope = scope_view c.args.self.now in
    let u = c.args.walk.now in
    let v = c.each_type.new.walk in
    let is = ap view c.in-Array.is ∙ view-Array c.in-Array.items in
    on_ok_weaker c.each_type.result (λ h. subst (λ (d : Data). Advances (WalksTypes scope c.args.node.now d) u v) (sym is)
    (subst (λ (xs : List Value). Advances (WalksEachType scope c.args.node.now (items_view xs)) u v) c.deref.ensures.value h)) c.each_type.ensures.ok

pub returns-in-Array-clause-out : goal.returns-in-Array-clause-out
returns-in-Array-clause-out c = λ refused.
    let scope = scope_view c.args.self.now in
    let u = c.args.walk.now in
    let is = ap view c.in-Array.is ∙ view-Array c.in-Array.items in
    subst (λ (d : Data). Refuses (WalksTypes scope c.args.node.now d) u) (sym is)
    (subst (λ (xs : List Value). Refuses (WalksEachType scope c.args.node.now (items_view xs)) u) c.deref.ensures.value (c.each_type.ensures.out refused))

pub returns-in-String-clause-ok : goal.returns-in-String-clause-ok
returns-in-String-clause-ok c =
    let scope = scope_view c.args.self.now in
    let u = c.args.walk.now in
    let v = c.one_type.new.walk in
    let is : view c.args.value.now ≡ string (string_bytes c.in-String._text) = rw c.in-String.is (search (rules, the_lemmas)) in
    on_ok_weaker c.one_type.result (λ h. subst (λ (d : Data). Advances (WalksTypes scope c.args.node.now d) u v) (sym is)
    (subst (λ (d : Data). Advances (WalksType scope c.args.node.now d) u v) is h)) c.one_type.ensures.ok

pub returns-in-String-clause-out : goal.returns-in-String-clause-out
returns-in-String-clause-out c = λ refused.
    let scope = scope_view c.args.self.now in
    let u = c.args.walk.now in
    let is : view c.args.value.now ≡ string (string_bytes c.in-String._text) = rw c.in-String.is (search (rules, the_lemmas)) in
    subst (λ (d : Data). Refuses (WalksTypes scope c.args.node.now d) u) (sym is)
    (subst (λ (d : Data). Refuses (WalksType scope c.args.node.now d) u) is (c.one_type.ensures.out refused))
