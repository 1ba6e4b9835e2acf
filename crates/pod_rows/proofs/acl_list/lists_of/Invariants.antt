use Rattle.std.proofs.Common.{◌≡◌, take}
use Rattle.std.specs.List.{filter_map}
use Rattle.pod_rows.specs.AclLists.{list_of}
use Rattle.pod_rows.proofs.acl_list.lists_of.Given as goal

abbrev pub invariant-loop-row : goal.invariant-loop-row
invariant-loop-row l = l.lists.items ≡ filter_map (list_of l.base) (take l.row-index l.rows)
