use Rattle.std.proofs.Common.{drop}
use Rattle.rdf_graph.specs.Term.{IsLiteral}
use Rattle.serde_json.specs.View.{items_view, members_view}
use Rattle.jsonld_expanded.specs.Expands.{WalksCells, WalksEachValue, WalksMembers}
use Rattle.jsonld_expanded.specs.Walks.{scope_view}
use Rattle.jsonld_expanded.proofs.Steps.{Leads}
use Rattle.jsonld_expanded.proofs.walk_scope.Scope.+walk.Given as goal

abbrev pub invariant-cells-loop-item : goal.invariant-cells-loop-item
invariant-cells-loop-item l = record {
  leads : Leads (WalksCells (scope_view l.self) l.s l.p (items_view l.items)) (WalksCells (scope_view l.self) l.last l.link (items_view (drop l.item-index l.items))) l.initial.walk l.walk;
  node : ¬ IsLiteral l.last;
}

abbrev pub invariant-properties-loop-key : goal.invariant-properties-loop-key
invariant-properties-loop-key l =
    Leads (WalksMembers (scope_view l.self) l.node (members_view l.initial.key-iterator)) (WalksMembers (scope_view l.self) l.node (members_view l.key-iterator)) l.initial.walk l.walk

abbrev pub invariant-each_value-loop-item : goal.invariant-each_value-loop-item
invariant-each_value-loop-item l =
    Leads (WalksEachValue (scope_view l.self) l.s l.p (items_view l.items)) (WalksEachValue (scope_view l.self) l.s l.p (items_view (drop l.item-index l.items))) l.initial.walk l.walk
