use Rattle.std.proofs.Common.{◌≡◌, ◌≤◌, length, filter}
use Rattle.pod_path.specs.Hierarchy.{is_container}
use Rattle.pod_rows.specs.AclLists.{first_list}
use Rattle.pod_rows.specs.Tree.{beginnings}
use Rattle.pod_rows.proofs.acl_list.inherited.Given as goal

-- no list of a longer beginning was found
abbrev pub invariant-loop-n : goal.invariant-loop-n
invariant-loop-n l =
    (l.n ≤ length l.path)
    × (first_list l.lists (filter is_container (beginnings l.path (length l.path))) ≡ first_list l.lists (filter is_container (beginnings l.path l.n)))

abbrev pub decreases-loop-n : goal.decreases-loop-n
decreases-loop-n l = l.n
