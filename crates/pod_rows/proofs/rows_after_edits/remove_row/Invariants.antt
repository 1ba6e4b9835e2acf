use Rattle.std.proofs.Common.{◌≡◌, filter, take, not}
use Rattle.pod_rows.specs.Pod.{is_at}
use Rattle.pod_rows.proofs.rows_after_edits.remove_row.Given as goal

abbrev pub invariant-loop-row : goal.invariant-loop-row
invariant-loop-row l = l.all.items ≡ filter (λ r. not (is_at l.path r)) (take l.row-index l.rows)
