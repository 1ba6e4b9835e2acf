use Rattle.std.proofs.Common.{◌++◌, ◌∙◌, ℕ, List, ap, subst}
use Rattle.row_pages.specs.Delimited.{items_direct}
use Rattle.row_pages.specs.Items.{Placed}
use Rattle.row_pages.specs.Parts.{all_items}
use Rattle.row_pages.specs.Seeks.{IsListed}
use Rattle.row_pages.proofs.Directly.{begins_itself, listed_all}
use Rattle.row_pages.proofs.rows.Rows.direct_below.Goals as goal

pub list_parts-requires-clause-begins : goal.list_parts-requires-clause-begins
list_parts-requires-clause-begins c =
    begins_itself c.args.prefix.now c.extend_from_slice.new.self.items (c.in_ok-extend_from_slice.ensures.items ∙ ap (λ (t : List ℕ). t ++ c.args.prefix.now) c.new-from.ensures.items)

pub returns : goal.returns
returns c =
    let i = c.self.inside in
    let prefix = c.args.prefix.now in
    let old = c.extend_from_slice.new.self.items in
    let had = c.new-items.result.items in
    let new = c.list_parts.new.from.items in
    let has = c.list_parts.new.into.items in
    let listed : IsListed prefix (all_items i.books.items) old had new has = subst (λ (bs : List (List (List Placed))). IsListed prefix (all_items bs) old had new has) c.as_slice.ensures.value c.in_ok-list_parts.ensures in
    listed_all (all_items i.books.items) prefix old new had has c.self.invariant.order c.new-items.ensures.items (c.in_ok-extend_from_slice.ensures.items ∙ ap (λ (t : List ℕ). t ++ prefix) c.new-from.ensures.items) listed
    ∙ ap (λ (is : List Placed). items_direct is prefix) c.self.view_is
