use Rattle.std.proofs.Common.{rules, ◌≡◌, Some}
use Rattle.std.specs.Prelude.{option_copied}
use Rattle.row_pages.specs.Items.{item_at}
use Rattle.pod_pages.specs.Placings.{row_if, row_made}
use Rattle.pod_pages.proofs.Placed.{edit_placed}
use Rattle.pod_pages.proofs.single_put.edit_placing.Goals as goal

pub returns-in_ok-found-in-Some : goal.returns-in_ok-found-in-Some
returns-in_ok-found-in-Some c =
    let made : Some c.in-Some.row ≡ row_made c.args.edit.now (row_if (option_copied c.find-old.result)) = search rules in
    let old : option_copied c.find-old.result ≡ item_at c.args.rows.now c.edit_path-path.result.now = search rules in
    edit_placed c.args.rows.now c.args.edit.now c.edit_path-path.result.now c.is_acl.result (option_copied c.find-old.result) c.in-Some.row c.in_ok-found-in-Some.found
    c.edit_path-path.ensures c.is_acl.ensures c.if-is_acl.false old made
    c.in_ok-found-in-Some.ensures.row c.in_ok-found-in-Some.ensures.replaces c.in_ok-found-in-Some.ensures.marked
