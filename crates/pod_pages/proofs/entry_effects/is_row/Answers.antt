use Rattle.std.proofs.Common.{rules, ◌≡◌, ◌∙◌}
use Rattle.std.specs.Prelude.{is_some}
use Rattle.row_pages.specs.Items.{item_at}
use Rattle.pod_pages.proofs.Placing.{found_is}
use Rattle.pod_pages.proofs.entry_effects.is_row.Goals as goal

pub returns : goal.returns
returns c =
    let found : c.is_some.result ≡ is_some (item_at c.args.rows.now c.args.path.now) = search rules in
    found ∙ found_is c.args.rows.now c.args.path.now
