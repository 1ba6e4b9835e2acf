use Rattle.std.proofs.Common.{rules, ◌≡◌, Some, None}
use Rattle.pod_rows.specs.Access.{list_path}
use Rattle.row_pages.specs.Items.{item_at}
use Rattle.pod_pages.proofs.Placing.{row_found, row_none}
use Rattle.pod_pages.proofs.list_numbers.list_row.Goals as goal

pub returns-in-Some : goal.returns-in-Some
returns-in-Some c =
    let found : item_at c.args.rows.now (list_path c.args.subject.now) ≡ Some c.in-Some.item.now = search rules in
    row_found c.args.rows.now (list_path c.args.subject.now) c.in-Some.item.now c.row.result.now found (search rules)

pub returns : goal.returns
returns c =
    let found : item_at c.args.rows.now (list_path c.args.subject.now) ≡ None = search rules in
    row_none c.args.rows.now (list_path c.args.subject.now) found
