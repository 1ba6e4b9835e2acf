use Rattle.std.proofs.Common.{◌≡◌, filter, map, take}
use Rattle.pod_rows.specs.Tree.{is_child_of}
use Rattle.pod_rows.proofs.plain_rows.children_of.Given as goal

abbrev pub invariant-loop-row : goal.invariant-loop-row
invariant-loop-row l = l.paths.items ≡ map (λ r. r.path) (filter (is_child_of l.container) (take l.row-index l.rows))
