use Rattle.std.proofs.Common.{◌≡◌, map, filter, take}
use Rattle.pod_rows.specs.Tree.{is_child_of}
use Rattle.row_pages.specs.Items.{Placed}
use Rattle.pod_pages.proofs.version.children_among.Given as goal

abbrev pub invariant-loop-item : goal.invariant-loop-item
invariant-loop-item l = l.paths.items ≡ map (λ (i : Placed). i.row.path) (filter (λ (i : Placed). is_child_of l.container i.row) (take l.item-index l.items))
