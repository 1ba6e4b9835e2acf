use Rattle.std.proofs.Common.{◌≡◌, List, Some, subst, sym}
use Rattle.row_pages.specs.Items.{Placed, AreItemsInOrder, item_at}
use Rattle.pod_pages.proofs.Walking.{nth_found}
use Rattle.pod_pages.proofs.mark_all_rows.marked_copies.Goals as goal

pub marked_item-requires-clause-found : goal.marked_item-requires-clause-found
marked_item-requires-clause-found c =
    let here : item_at c.args.items.now c.item-item.result.row.path ≡ Some c.item-item.result = nth_found c.args.items.now c.loop-item.item-index c.item-item.result (subst AreItemsInOrder (sym c.requires) c.are_in_order.ensures) c.loop-item-test.true c.item-item.is in
    subst (λ (xs : List Placed). item_at xs c.item-item.result.row.path ≡ Some c.item-item.result) c.requires here
