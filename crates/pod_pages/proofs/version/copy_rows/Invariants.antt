use Rattle.std.proofs.Common.{◌≡◌, take}
use Rattle.row_pages.specs.Items.{rows_of}
use Rattle.pod_pages.proofs.version.copy_rows.Given as goal

abbrev pub invariant-loop-item : goal.invariant-loop-item
invariant-loop-item l = l.rows.items ≡ rows_of (take l.item-index l.items)
