use Rattle.std.proofs.Common.{rules, ◌≡◌, sym, ◌∙◌, Some, None}
use Rattle.row_pages.specs.Items.{item_at}
use Rattle.pod_pages.specs.Marks.{path_mark}
use Rattle.pod_pages.proofs.Marking.{found_self, marked_none, marked_lost, marked_new}
use Rattle.pod_pages.proofs.marks_of_paths.marked_at.Goals as goal

pub returns-in_ok-next-in-Some-path_mark : goal.returns-in_ok-next-in-Some-path_mark
returns-in_ok-next-in-Some-path_mark c = λ done have a.
    let found : item_at c.args.rows.now c.args.path.now ≡ Some c.in-Some.item.now = search rules in
    let mark : path_mark c.args.numbers.now c.args.path.now ≡ Some c.in-Some-path_mark.mark = sym c.path_mark.ensures ∙ c.in-Some-path_mark.is in
    marked_new c.args.numbers.now done c.args.rows.now c.in_ok-next-in-Some-path_mark.next c.args.path.now c.in-Some.item.now c.in-Some-path_mark.mark c.are_in_order.ensures found mark
    (c.in_ok-next-in-Some-path_mark.ensures (found_self c.args.rows.now c.args.path.now c.in-Some.item.now found)) a

pub returns-in_ok-same-in-None-path_mark : goal.returns-in_ok-same-in-None-path_mark
returns-in_ok-same-in-None-path_mark c = λ done have a.
    let found : item_at c.args.rows.now c.args.path.now ≡ Some c.in-Some.item.now = search rules in
    absurd (marked_lost c.args.numbers.now c.args.rows.now c.args.path.now c.in-Some.item.now have a.rows found (sym c.path_mark.ensures ∙ c.in-None-path_mark.is))

pub returns-in_ok-same-in-None : goal.returns-in_ok-same-in-None
returns-in_ok-same-in-None c = λ done have a.
    let found : item_at c.args.rows.now c.args.path.now ≡ None = search rules in
    marked_none c.args.numbers.now done c.args.rows.now c.in_ok-same-in-None.same c.args.path.now found c.in_ok-same-in-None.ensures a
