use Rattle.std.specs.Prelude.{codes}
use Rattle.std.proofs.lemmas.Result.{on_ok_weaker}
use Rattle.serde_json.specs.Find.{get}
use Rattle.serde_json.specs.View.{view, members_view}
use Rattle.jsonld_expanded.specs.Expands.{IsNodeBy}
use Rattle.jsonld_expanded.specs.Walks.{scope_view}
use Rattle.jsonld_expanded.proofs.Objects.{node_object_none, node_object_ok, node_object_out}
use Rattle.jsonld_expanded.proofs.Steps.{advance-counted, handed}
use Rattle.jsonld_expanded.proofs.walk_scope.Scope.lone_object.Goals as goal

pub returns-clause-ok : goal.returns-clause-ok
returns-clause-ok c =
    let node = c.in_ok-node.node in
    let counted = advance-counted (IsNodeBy (scope_view c.args.self.now) (get (codes "@id") (view c.args.object.now)) node) c.args.walk.now c.node.new.walk c.count_made.new.self c.in_ok-node.ensures.node c.in_ok-count_made.ensures in
    on_ok_weaker c.properties.result (λ rest. node_object_ok (scope_view c.args.self.now) (view c.args.object.now) (members_view c.args.members.now.entries) c.requires c.args.walk.now
    node c.count_made.new.self c.properties.new.walk counted rest) c.properties.ensures.ok

pub returns-clause-out : goal.returns-clause-out
returns-clause-out c = λ refused.
    let node = c.in_ok-node.node in
    let counted = advance-counted (IsNodeBy (scope_view c.args.self.now) (get (codes "@id") (view c.args.object.now)) node) c.args.walk.now c.node.new.walk c.count_made.new.self c.in_ok-node.ensures.node c.in_ok-count_made.ensures in
    node_object_out (scope_view c.args.self.now) (view c.args.object.now) (members_view c.args.members.now.entries) c.requires c.args.walk.now
    node c.count_made.new.self counted (c.properties.ensures.out refused)

pub returns-in_err-node-clause-out : goal.returns-in_err-node-clause-out
returns-in_err-node-clause-out c = λ refused. node_object_none (scope_view c.args.self.now) (view c.args.object.now) (members_view c.args.members.now.entries) c.requires c.args.walk.now
    (c.in_err-node.ensures.out (handed c.from_residual.result c.in_err-node.field-0.0 _ c.from_residual.ensures.1 refused))
