use Rattle.std.proofs.Common.{List, sym, ap, ◌∙◌}
use Rattle.row_pages.specs.Items.{Placed, put_item}
use Rattle.row_pages.specs.Parts.{all_items}
use Rattle.row_pages.proofs.Replaced.{none_then, order_then, some_then}
use Rattle.row_pages.proofs.rows.Rows.replaced.Goals as goal

pub invariant_of-self : goal.invariant_of-self
invariant_of-self c = record {
  count = c.self.invariant.count ∙ sym c.replace_in.ensures.count;
  order = order_then c.replace_in.result (all_items c.self.inside.books.items) (all_items c.replace_in.new.parts.items) c.args.item c.replace_in.ensures.put
      (some_then c.replace_in.result c.replace_in.ensures.kept (λ e. ap all_items e)) c.self.invariant.order;
  each = c.replace_in.ensures.each c.self.invariant.each;
}

pub returns-clause-put : goal.returns-clause-put
returns-clause-put c =
    none_then c.replace_in.result c.replace_in.ensures.put (λ p. p ∙ ap (λ (is : List Placed). put_item is c.args.item) c.self.view_is)

pub returns-clause-kept : goal.returns-clause-kept
returns-clause-kept c = some_then c.replace_in.result c.replace_in.ensures.kept (λ e. ap all_items e ∙ c.self.view_is)
