use Rattle.std.proofs.Common.{◌≡◌, List, length, sym, ap, ◌∙◌, subst}
use Rattle.row_pages.specs.Items.{Placed, AreItemsInOrder, put_item}
use Rattle.row_pages.specs.Parts.{all_items}
use Rattle.row_pages.proofs.Changed.{order_put, put_count}
use Rattle.row_pages.proofs.rows.Rows.into_with.Goals as goal

pub invariant_of-result : goal.invariant_of-result
invariant_of-result c =
    let all : all_items c.in_ok-books.books.items ≡ put_item c.args.self c.args.item =
    c.in_ok-books.ensures.items ∙ ap (λ (is : List Placed). put_item is c.args.item) c.self.view_is in
    let order : AreItemsInOrder c.args.self = subst AreItemsInOrder c.self.view_is c.self.invariant.order in
    record {
      count = put_count c.args.self c.args.item c.args.replaces c.self.inside.len c.in_ok-len.len order c.requires (c.self.invariant.count ∙ ap length c.self.view_is) c.in_ok-len.ensures ∙ ap length (sym all);
      order = subst AreItemsInOrder (sym all) (order_put c.args.self c.args.item order);
      each = c.in_ok-books.ensures.each c.self.invariant.each;
    }
