use Rattle.std.proofs.Common.{length}
use Rattle.row_pages.specs.Seeks.{items_from}
use Rattle.pod_pages.proofs.FirstChild.{IsSought}
use Rattle.pod_pages.proofs.first_child.has_child.Given as goal

abbrev pub invariant-loop-item : goal.invariant-loop-item
invariant-loop-item l = IsSought l.rows l.container l.text.items

abbrev pub decreases-loop-item : goal.decreases-loop-item
decreases-loop-item l = length (items_from l.rows l.text.items)
