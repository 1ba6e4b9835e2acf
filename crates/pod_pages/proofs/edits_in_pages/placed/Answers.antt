use Rattle.std.proofs.Common.{rules, ◌≡◌, Some, None}
use Rattle.row_pages.specs.Items.{item_at}
use Rattle.pod_pages.proofs.EditSteps.{placed_some, placed_none}
use Rattle.pod_pages.proofs.edits_in_pages.placed.Goals as goal

pub returns-in_ok-placed-in-Some : goal.returns-in_ok-placed-in-Some
returns-in_ok-placed-in-Some c =
    let found : item_at c.args.old.now c.args.row.path ≡ Some c.in-Some.item.now = search rules in
    placed_some c.args.old.now c.args.row c.in-Some.item.now c.in_ok-placed-in-Some.placed c.list.result c.is_own.result found c.list.ensures c.is_own.ensures c.in_ok-placed-in-Some.ensures

pub returns-in_ok-placed-in-None : goal.returns-in_ok-placed-in-None
returns-in_ok-placed-in-None c =
    let found : item_at c.args.old.now c.args.row.path ≡ None = search rules in
    placed_none c.args.old.now c.args.row c.in_ok-placed-in-None.placed found c.in_ok-placed-in-None.ensures
