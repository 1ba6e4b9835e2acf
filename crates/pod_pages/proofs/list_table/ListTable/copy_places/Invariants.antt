use Rattle.std.proofs.Common.{◌≡◌, take}
use Rattle.pod_pages.proofs.list_table.ListTable.copy_places.Given as goal

abbrev pub invariant-loop-place : goal.invariant-loop-place
invariant-loop-place l = l.copies.items ≡ take l.place-index l.self
