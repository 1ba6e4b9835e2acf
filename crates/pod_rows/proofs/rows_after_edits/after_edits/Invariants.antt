use Rattle.std.proofs.Common.{◌≡◌, take, Some}
use Rattle.pod_rows.specs.Apply.{after_edits}
use Rattle.pod_rows.proofs.rows_after_edits.after_edits.Given as goal

abbrev pub invariant-loop-edit : goal.invariant-loop-edit
invariant-loop-edit l = after_edits (Some l.rows) (take l.edit-index l.edits) ≡ Some l.now.items
