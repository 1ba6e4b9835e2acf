use Rattle.std.proofs.Common.{◌≡◌, All, length}
use Rattle.published_view.specs.LookerState.{IsNewLooker, LookerState}
use Rattle.published_view.proofs.view_opening.make_lookers.Given as goal

abbrev pub invariant-loop : goal.invariant-loop
invariant-loop g l = record {
  counted : length l.lookers.items ≡ l.counter;
  new : All (IsNewLooker l.publisher.list) l.lookers.items;
  tables : All (λ (looker : LookerState g.row.V-Item.Denot). looker.table ≡ l.publisher.table) l.lookers.items;
  kept : l.places ≡ l.initial.places;
}
