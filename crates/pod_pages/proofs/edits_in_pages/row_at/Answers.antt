use Rattle.std.proofs.Common.{rules, ◌≡◌, Some, None}
use Rattle.row_pages.specs.Items.{item_at}
use Rattle.pod_pages.proofs.Placing.{row_found, row_none}
use Rattle.pod_pages.proofs.edits_in_pages.row_at.Goals as goal

pub returns-in-Some : goal.returns-in-Some
returns-in-Some c =
    let found : item_at c.args.rows.now c.args.path.now ≡ Some c.in-Some.item.now = search rules in
    row_found c.args.rows.now c.args.path.now c.in-Some.item.now c.row.result.now found (search rules)

pub returns-in-None : goal.returns-in-None
returns-in-None c =
    let found : item_at c.args.rows.now c.args.path.now ≡ None = search rules in
    row_none c.args.rows.now c.args.path.now found
