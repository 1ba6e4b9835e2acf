use Rattle.std.proofs.Common.{◌≡◌, take}
use Rattle.pod_rows.specs.RowLists.{paths_below}
use Rattle.pod_rows.proofs.plain_rows.paths_below.Given as goal

abbrev pub invariant-loop-row : goal.invariant-loop-row
invariant-loop-row l = l.paths.items ≡ paths_below (take l.row-index l.rows) l.text
