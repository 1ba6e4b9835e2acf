use Rattle.std.proofs.Common.{◌≡◌, ◌≤◌, length, filter}
use Rattle.pod_path.specs.Hierarchy.{is_container}
use Rattle.pod_rows.specs.Tree.{beginnings}
use Rattle.access_index.specs.Tables.{first_entry}
use Rattle.access_index.proofs.table_lookup.entry_above.Given as goal

-- no list of a longer beginning was found
abbrev pub invariant-loop-n : goal.invariant-loop-n
invariant-loop-n l =
    (l.n ≤ length l.path)
    × (first_entry l.lists (filter is_container (beginnings l.path (length l.path))) ≡ first_entry l.lists (filter is_container (beginnings l.path l.n)))

abbrev pub decreases-loop-n : goal.decreases-loop-n
decreases-loop-n l = l.n
