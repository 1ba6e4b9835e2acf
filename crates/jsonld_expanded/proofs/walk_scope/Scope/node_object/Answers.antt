use Rattle.std.proofs.Common.{sym, ap, ◌∙◌, subst}
use Rattle.std.proofs.lemmas.Result.{on_ok_weaker}
use Rattle.serde_json.specs.Data.{Data}
use Rattle.serde_json.specs.View.{view}
use Rattle.serde_json.proofs.Views.{view-Object}
use Rattle.jsonld_expanded.specs.Expands.{WalksNodeObject}
use Rattle.jsonld_expanded.specs.Walks.{Advances, Refuses, scope_view}
use Rattle.jsonld_expanded.proofs.walk_scope.Scope.node_object.Goals as goal

pub returns-in-Object-clause-ok : goal.returns-in-Object-clause-ok
returns-in-Object-clause-ok c =
    let is = ap view c.in-Object.is ∙ view-Object c.in-Object.members in
    on_ok_weaker c.lone_object.result (λ h. subst (λ (d : Data). Advances (WalksNodeObject (scope_view c.args.self.now) d) c.args.walk.now c.lone_object.new.walk) (sym is) h) c.lone_object.ensures.ok

pub returns-in-Object-clause-out : goal.returns-in-Object-clause-out
returns-in-Object-clause-out c = λ refused.
    let is = ap view c.in-Object.is ∙ view-Object c.in-Object.members in
    subst (λ (d : Data). Refuses (WalksNodeObject (scope_view c.args.self.now) d) c.args.walk.now) (sym is) (c.lone_object.ensures.out refused)
