use Rattle.std.proofs.Common.{drop}
use Rattle.serde_json.specs.View.{items_view}
use Rattle.jsonld_expanded.specs.Expands.{WalksEachType}
use Rattle.jsonld_expanded.specs.Walks.{scope_view}
use Rattle.jsonld_expanded.proofs.Steps.{Leads}
use Rattle.jsonld_expanded.proofs.walk_scope.Scope.each_type.Given as goal

abbrev pub invariant-loop-item : goal.invariant-loop-item
invariant-loop-item l = Leads (WalksEachType (scope_view l.self) l.node (items_view l.items)) (WalksEachType (scope_view l.self) l.node (items_view (drop l.item-index l.items))) l.initial.walk l.walk
