use Rattle.std.proofs.Common.{◌≡◌, ◌++◌, [], List, length, sym, ap, ◌∙◌, subst}
use Rattle.std.specs.List.{flat_map}
use Rattle.row_pages.specs.Items.{Placed, AreItemsInOrder}
use Rattle.row_pages.specs.Nodes.{HaveItems}
use Rattle.row_pages.specs.Parts.{page_items, book_items, all_items}
use Rattle.row_pages.proofs.Joined.{shelf_items}
use Rattle.row_pages.proofs.rows.Rows.of.Goals as goal

pub invariant_of-result : goal.invariant_of-result
invariant_of-result c =
    let pages : flat_map page_items c.push_nodes.new.nodes.items ≡ [] ++ page_items c.args.items.now =
    c.in_ok-push_nodes.ensures.items ∙ ap (λ (xs : List (List Placed)). flat_map page_items xs ++ page_items c.args.items.now) c.new-pages.ensures.items in
    let books : all_items c.push_nodes-2.new.nodes.items ≡ [] ++ flat_map page_items c.push_nodes.new.nodes.items =
    c.in_ok-push_nodes-2.ensures.items
    ∙ ap (λ (xs : List (List (List Placed))). all_items xs ++ flat_map page_items c.as_slice.result.now) c.new-books.ensures.items
    ∙ ap (λ (xs : List (List Placed)). [] ++ flat_map page_items xs) c.as_slice.ensures.value in
    let whole = shelf_items c.args.items.now c.push_nodes.new.nodes.items c.push_nodes-2.new.nodes.items pages books in
    record {
      count = ap length (sym whole);
      order = subst AreItemsInOrder (sym whole) c.requires;
      each = c.in_ok-push_nodes-2.ensures.nodes (subst (HaveItems book_items) (sym c.new-books.ensures.items) tt);
    }

pub returns : goal.returns
returns c =
    let pages : flat_map page_items c.push_nodes.new.nodes.items ≡ [] ++ page_items c.args.items.now =
    c.in_ok-push_nodes.ensures.items ∙ ap (λ (xs : List (List Placed)). flat_map page_items xs ++ page_items c.args.items.now) c.new-pages.ensures.items in
    let books : all_items c.push_nodes-2.new.nodes.items ≡ [] ++ flat_map page_items c.push_nodes.new.nodes.items =
    c.in_ok-push_nodes-2.ensures.items
    ∙ ap (λ (xs : List (List (List Placed))). all_items xs ++ flat_map page_items c.as_slice.result.now) c.new-books.ensures.items
    ∙ ap (λ (xs : List (List Placed)). [] ++ flat_map page_items xs) c.as_slice.ensures.value in
    shelf_items c.args.items.now c.push_nodes.new.nodes.items c.push_nodes-2.new.nodes.items pages books
