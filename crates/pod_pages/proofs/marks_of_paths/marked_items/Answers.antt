use Rattle.std.proofs.Common.{rules, ◌||◌, take, subst, List}
use Rattle.std.specs.Prelude.{bytes_eq, is_some}
use Rattle.std.specs.List.{list_any}
use Rattle.row_pages.specs.Items.{Placed, item_at}
use Rattle.pod_pages.specs.Numbering.{AreMarked}
use Rattle.pod_pages.proofs.Marking.{items_step, marks_shared, marked_found}
use Rattle.std.proofs.Common.{arith}
use Rattle.std.proofs.lemmas.List.{take_all}
use Rattle.pod_pages.proofs.marks_of_paths.marked_items.Goals as goal

pub returns-then-is_most : goal.returns-then-is_most
returns-then-is_most c = λ done have a. c.in_ok-whole.ensures (λ p. is_some (item_at c.args.items.now p) || done p) have

pub loop-item-init : goal.loop-item-init
loop-item-init c = λ done have a. marks_shared c.args.numbers.now done c.args.rows.now c.in_ok-now.now c.in_ok-now.ensures a

pub loop-item-preserved : goal.loop-item-preserved
loop-item-preserved c = λ done have a.
    items_step c.args.numbers.now done c.args.items.now c.loop-item.item-index c.item-item.result c.row.result.now.path c.in_ok-next.next c.loop-item-test.true c.item-item.is (search rules)
    (c.in_ok-next.ensures (λ p. list_any (λ (i : Placed). bytes_eq i.row.path p) (take c.loop-item.item-index c.args.items.now) || done p) have (c.loop-item.invariant done have a))

pub returns : goal.returns
returns c = λ done have a.
    marked_found c.args.numbers.now done c.args.items.now c.loop-item.now
    (subst (λ (xs : List Placed). AreMarked c.args.numbers.now (λ p. list_any (λ (i : Placed). bytes_eq i.row.path p) xs || done p) c.loop-item.now) (take_all c.loop-item.item-index c.args.items.now (omega arith)) (c.loop-item.invariant done have a))
