use Rattle.std.proofs.Common.{◌≡◌, take}
use Rattle.pod_rows.proofs.rows_after_edits.copy_rows.Given as goal

abbrev pub invariant-loop-row : goal.invariant-loop-row
invariant-loop-row l = l.copies.items ≡ take l.row-index l.rows
