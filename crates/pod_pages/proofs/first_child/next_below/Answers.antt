use Rattle.std.proofs.Common.{rules, ◌≡◌, false, Some, None}
use Rattle.row_pages.specs.Items.{begins_with, first_from}
use Rattle.pod_pages.proofs.FirstChild.{none_from, none_further}
use Rattle.pod_pages.proofs.first_child.next_below.Goals as goal

pub returns-else-begins_with-clause-none : goal.returns-else-begins_with-clause-none
returns-else-begins_with-clause-none c =
    let found : first_from c.args.rows.now c.args.text.now ≡ Some c.in-Some.item.now = search rules in
    let other : begins_with c.args.container.now c.in-Some.item.now ≡ false = search rules in
    none_further c.args.rows.now c.args.text.now c.args.container.now c.in-Some.item.now c.requires.order found c.requires.begins other

pub returns-in-None-clause-none : goal.returns-in-None-clause-none
returns-in-None-clause-none c =
    let none : first_from c.args.rows.now c.args.text.now ≡ None = search rules in
    none_from c.args.rows.now c.args.text.now c.args.container.now none
