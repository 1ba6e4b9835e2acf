use Rattle.std.proofs.Common.{◌≡◌, ◌∙◌, [], ap, map, subst, sym}
use Rattle.row_pages.specs.Items.{AreItemsInOrder, items_below}
use Rattle.pod_pages.specs.Marks.{marked_by}
use Rattle.pod_pages.proofs.Walking.{below_all, marked_all, marked_order}
use Rattle.pod_pages.proofs.mark_all_rows.marked_whole.Goals as goal

pub marked_copies-requires : goal.marked_copies-requires
marked_copies-requires c =
    let below : c.as_slice.result.now ≡ items_below c.args.numbers.now [] = c.as_slice.ensures.value ∙ c.in_ok-items.ensures in
    below ∙ below_all c.args.numbers.now

pub of-requires : goal.of-requires
of-requires c =
    let below : c.as_slice.result.now ≡ items_below c.args.numbers.now [] = c.as_slice.ensures.value ∙ c.in_ok-items.ensures in
    let all : c.as_slice-2.result.now ≡ map (marked_by c.args.numbers.now) c.args.numbers.now = c.as_slice-2.ensures.value ∙ c.in_ok-marked.ensures ∙ ap (map (marked_by c.args.numbers.now)) (below ∙ below_all c.args.numbers.now) in
    subst AreItemsInOrder (sym all) (marked_order c.args.numbers.now c.args.numbers.now c.are_in_order.ensures)

pub returns : goal.returns
returns c = λ done have.
    let below : c.as_slice.result.now ≡ items_below c.args.numbers.now [] = c.as_slice.ensures.value ∙ c.in_ok-items.ensures in
    let all : c.as_slice-2.result.now ≡ map (marked_by c.args.numbers.now) c.args.numbers.now = c.as_slice-2.ensures.value ∙ c.in_ok-marked.ensures ∙ ap (map (marked_by c.args.numbers.now)) (below ∙ below_all c.args.numbers.now) in
    marked_all c.args.numbers.now done c.in_ok-all.all have (c.in_ok-all.ensures ∙ all)
