use Rattle.std.proofs.Common.{rules, ◌≡◌, ap, ℕ, Some, None, false}
use Rattle.row_pages.specs.Items.{item_at}
use Rattle.pod_pages.proofs.Listing.{without_list, beside, without_row, remarked}
use Rattle.pod_pages.proofs.Marking.{found_self}
use Rattle.pod_pages.proofs.list_numbers.without_list.Goals as goal

pub returns-in_ok-next-in-Some-clause-numbered : goal.returns-in_ok-next-in-Some-clause-numbered
returns-in_ok-next-in-Some-clause-numbered c =
    let found : item_at c.args.rows.now c.args.subject.now ≡ Some c.in-Some.item.now = search rules in
    without_list c.args.rows.now c.args.subject.now c.in-Some.item.now c.in-Some.item.now.list (remarked c.in-Some.item.now c.list.result false) c.in_ok-next-in-Some.next c.are_in_order.ensures found (ap (λ (n : ℕ). remarked c.in-Some.item.now n false) c.list.ensures)
    (c.in_ok-next-in-Some.ensures (found_self c.args.rows.now c.args.subject.now c.in-Some.item.now found))

pub returns-in_ok-next-in-Some-clause-others : goal.returns-in_ok-next-in-Some-clause-others
returns-in_ok-next-in-Some-clause-others c =
    let found : item_at c.args.rows.now c.args.subject.now ≡ Some c.in-Some.item.now = search rules in
    beside c.args.rows.now c.args.subject.now c.in-Some.item.now c.in-Some.item.now.list false (remarked c.in-Some.item.now c.list.result false) c.in_ok-next-in-Some.next found (ap (λ (n : ℕ). remarked c.in-Some.item.now n false) c.list.ensures)
    (c.in_ok-next-in-Some.ensures (found_self c.args.rows.now c.args.subject.now c.in-Some.item.now found))

pub returns-in_ok-same-in-None-clause-numbered : goal.returns-in_ok-same-in-None-clause-numbered
returns-in_ok-same-in-None-clause-numbered c =
    let found : item_at c.args.rows.now c.args.subject.now ≡ None = search rules in
    without_row c.args.rows.now c.args.subject.now c.in_ok-same-in-None.same found c.in_ok-same-in-None.ensures
