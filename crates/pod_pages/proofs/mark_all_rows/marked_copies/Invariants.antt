use Rattle.std.proofs.Common.{◌≡◌, map, take}
use Rattle.pod_pages.specs.Marks.{marked_by, number_within}
use Rattle.pod_pages.proofs.mark_all_rows.marked_copies.Given as goal

abbrev pub invariant-loop-item : goal.invariant-loop-item
invariant-loop-item l = (l.marked.items ≡ map (marked_by l.numbers) (take l.item-index l.items))
    × (l.list ≡ number_within l.numbers l.container)
