use Rattle.std.proofs.Common.{◌≡◌, map, take}
use Rattle.row_pages.specs.Items.{path_of}
use Rattle.pod_pages.proofs.item_paths.item_paths.Given as goal

abbrev pub invariant-loop-item : goal.invariant-loop-item
invariant-loop-item l = l.paths.items ≡ map path_of (take l.item-index l.items)
