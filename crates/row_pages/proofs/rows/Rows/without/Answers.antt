use Rattle.std.proofs.Common.{◌≡◌, List, length, sym, ap, ◌∙◌, subst}
use Rattle.row_pages.specs.Items.{Placed, AreItemsInOrder, remove_item}
use Rattle.row_pages.specs.Nodes.{HaveItems}
use Rattle.row_pages.specs.Parts.{book_items, all_items}
use Rattle.row_pages.proofs.Changed.{order_removed}
use Rattle.row_pages.proofs.rows.Rows.without.Goals as goal

pub invariant_of-result : goal.invariant_of-result
invariant_of-result c =
    let all : all_items c.in_ok-books.books.items ≡ remove_item c.args.self.now c.args.path.now =
    c.in_ok-books.ensures.items
    ∙ ap (λ (bs : List (List (List Placed))). remove_item (all_items bs) c.args.path.now) c.as_slice.ensures.value
    ∙ ap (λ (is : List Placed). remove_item is c.args.path.now) c.self.view_is in
    record {
      count = c.len_without-len.ensures ∙ ap length (sym all);
      order = subst AreItemsInOrder (sym all) (order_removed c.args.self.now c.args.path.now (subst AreItemsInOrder c.self.view_is c.self.invariant.order));
      each = c.in_ok-books.ensures.each (subst (HaveItems book_items) (sym c.as_slice.ensures.value) c.self.invariant.each);
    }
