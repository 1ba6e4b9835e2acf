use Rattle.std.proofs.Common.{◌≡◌, ◌≤◌, length, filter}
use Rattle.pod_path.specs.Hierarchy.{is_container}
use Rattle.pod_rows.specs.Tree.{beginnings}
use Rattle.pod_pages.specs.Marks.{first_number}
use Rattle.pod_pages.proofs.row_marks.number_above.Given as goal

-- no longer beginning has a number
abbrev pub invariant-loop-n : goal.invariant-loop-n
invariant-loop-n l =
    (l.n ≤ length l.path)
    × (first_number l.rows (filter is_container (beginnings l.path (length l.path))) ≡ first_number l.rows (filter is_container (beginnings l.path l.n)))

abbrev pub decreases-loop-n : goal.decreases-loop-n
decreases-loop-n l = l.n
