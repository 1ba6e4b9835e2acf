use Rattle.std.proofs.Common.{◌||◌, ℕ, Bool, List, take}
use Rattle.std.specs.Prelude.{bytes_eq}
use Rattle.std.specs.List.{list_any}
use Rattle.row_pages.specs.Items.{Placed}
use Rattle.pod_pages.specs.Numbering.{AreMarked, HaveMarks}
use Rattle.pod_pages.proofs.marks_of_paths.marked_items.Given as goal

abbrev pub invariant-loop-item : goal.invariant-loop-item
invariant-loop-item l = (done : List ℕ → Bool) → HaveMarks l.numbers → AreMarked l.numbers done l.rows
    → AreMarked l.numbers (λ p. list_any (λ (i : Placed). bytes_eq i.row.path p) (take l.item-index l.items) || done p) l.now
