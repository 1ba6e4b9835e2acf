use Rattle.std.proofs.Common.{rules, ◌≡◌, ◌∙◌, ◌++◌, ◌∷◌, [], true, false, Some, ap, sym, List, ℕ}
use Rattle.pod_rows.specs.Tree.{is_child_of}
use Rattle.row_pages.specs.Items.{begins_with, first_from}
use Rattle.pod_pages.proofs.FirstChild.{fewer_next, sought_first, sought_found, sought_next}
use Rattle.pod_pages.proofs.first_child.has_child.Goals as goal

pub loop-item-init : goal.loop-item-init
loop-item-init c =
    let first : c.extend_from_slice.new.self.items ≡ [] ++ c.args.container.now = search rules in
    sought_first c.args.rows.now c.args.container.now c.extend_from_slice.new.self.items first

pub loop-item-smaller : goal.loop-item-smaller
loop-item-smaller c =
    let found : first_from c.args.rows.now c.loop-item.text.items ≡ Some c.in-Some.item.now =
    ap (first_from c.args.rows.now) (sym c.as_slice.ensures.value) ∙ c.in-Some.ensures.first in
    let other : is_child_of c.args.container.now c.in-Some.item.now.row ≡ false = search rules in
    let next : c.put_next.new.text.items ≡ c.in-Some.item.now.row.path ++ 0 ∷ [] = search rules in
    fewer_next c.args.rows.now c.args.container.now c.loop-item.text.items c.put_next.new.text.items c.in-Some.item.now c.are_in_order.ensures found c.in-Some.ensures.below other next

pub loop-item-preserved : goal.loop-item-preserved
loop-item-preserved c =
    let found : first_from c.args.rows.now c.loop-item.text.items ≡ Some c.in-Some.item.now =
    ap (first_from c.args.rows.now) (sym c.as_slice.ensures.value) ∙ c.in-Some.ensures.first in
    let other : is_child_of c.args.container.now c.in-Some.item.now.row ≡ false = search rules in
    let next : c.put_next.new.text.items ≡ c.in-Some.item.now.row.path ++ 0 ∷ [] = search rules in
    sought_next c.args.rows.now c.args.container.now c.loop-item.text.items c.put_next.new.text.items c.in-Some.item.now c.are_in_order.ensures found c.in-Some.ensures.below other next c.loop-item.invariant

pub returns-then-is_child_of : goal.returns-then-is_child_of
returns-then-is_child_of c =
    let found : first_from c.args.rows.now c.loop-item.text.items ≡ Some c.in-Some.item.now =
    ap (first_from c.args.rows.now) (sym c.as_slice.ensures.value) ∙ c.in-Some.ensures.first in
    let child : is_child_of c.args.container.now c.in-Some.item.now.row ≡ true = search rules in
    sought_found c.args.rows.now c.args.container.now c.loop-item.text.items c.in-Some.item.now found c.in-Some.ensures.below child
