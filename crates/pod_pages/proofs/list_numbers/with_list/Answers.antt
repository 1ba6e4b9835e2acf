use Rattle.std.proofs.Common.{rules, ◌≡◌, ◌∙◌, ap, refl, subst, Some, None, true}
use Rattle.row_pages.specs.Items.{item_at}
use Rattle.pod_pages.specs.Numbering.{IsNumberFor, Places}
use Rattle.pod_pages.specs.declared.list_table.AccessList.{AccessList}
use Rattle.pod_pages.proofs.Listing.{with_list, beside, no_row, remarked}
use Rattle.pod_pages.proofs.Marking.{found_self}
use Rattle.pod_pages.proofs.list_numbers.with_list.Goals as goal

pub returns-in_ok-next-in-Some-clause-numbered : goal.returns-in_ok-next-in-Some-clause-numbered
returns-in_ok-next-in-Some-clause-numbered c = λ base first pending tree has ruled a.
    let found : item_at c.args.rows.now c.args.subject.now ≡ Some c.in-Some.item.now = search rules in
    let number = subst (λ (places : Places). IsNumberFor c.in-Some.item.now places c.in_ok-number-in-Some.number) c.as_slice.ensures.value c.in_ok-number-in-Some.ensures in
    with_list c.args.rows.now c.args.subject.now c.in-Some.item.now c.args.places.now.items c.set_list.new.places.items c.in_ok-number-in-Some.number c.in_ok-list-in-Some.list
    (remarked c.in-Some.item.now c.in_ok-number-in-Some.number true) c.in_ok-next-in-Some.next c.are_in_order.ensures found number c.in_ok-set_list-in-Some.ensures
    (ap (λ (l : AccessList). l.at) c.in_ok-list-in-Some.ensures ∙ c.in_ok-at-in-Some.ensures) refl (c.in_ok-next-in-Some.ensures (found_self c.args.rows.now c.args.subject.now c.in-Some.item.now found))
    base first pending tree has (ap (λ (l : AccessList). l.rules.list) c.in_ok-list-in-Some.ensures ∙ ruled) a

pub returns-in_ok-next-in-Some-clause-others : goal.returns-in_ok-next-in-Some-clause-others
returns-in_ok-next-in-Some-clause-others c =
    let found : item_at c.args.rows.now c.args.subject.now ≡ Some c.in-Some.item.now = search rules in
    beside c.args.rows.now c.args.subject.now c.in-Some.item.now c.in_ok-number-in-Some.number true (remarked c.in-Some.item.now c.in_ok-number-in-Some.number true) c.in_ok-next-in-Some.next found refl (c.in_ok-next-in-Some.ensures (found_self c.args.rows.now c.args.subject.now c.in-Some.item.now found))

pub returns-in_ok-same-in-None-clause-numbered : goal.returns-in_ok-same-in-None-clause-numbered
returns-in_ok-same-in-None-clause-numbered c = λ base first pending tree has ruled a.
    let none : item_at c.args.rows.now c.args.subject.now ≡ None = search rules in
    absurd (no_row c.args.rows.now c.args.subject.now base first pending c.args.places.now.items none tree has a)
