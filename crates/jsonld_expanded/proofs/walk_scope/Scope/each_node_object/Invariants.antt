use Rattle.std.proofs.Common.{drop}
use Rattle.serde_json.specs.View.{items_view}
use Rattle.jsonld_expanded.specs.Expands.{WalksEachNodeObject}
use Rattle.jsonld_expanded.specs.Walks.{scope_view}
use Rattle.jsonld_expanded.proofs.Steps.{Leads}
use Rattle.jsonld_expanded.proofs.walk_scope.Scope.each_node_object.Given as goal

abbrev pub invariant-loop-item : goal.invariant-loop-item
invariant-loop-item l = Leads (WalksEachNodeObject (scope_view l.self) (items_view l.items)) (WalksEachNodeObject (scope_view l.self) (items_view (drop l.item-index l.items))) l.initial.walk l.walk
