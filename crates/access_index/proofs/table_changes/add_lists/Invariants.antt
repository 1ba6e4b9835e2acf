use Rattle.std.proofs.Common.{◌≡◌, drop}
use Rattle.access_index.specs.Tables.{AreInOrder, add_lists}
use Rattle.access_index.proofs.table_changes.add_lists.Given as goal

-- what is left to add, added from here, is all, added to the first table
abbrev pub invariant-loop-subject : goal.invariant-loop-subject
invariant-loop-subject l =
    AreInOrder l.lists.items
    × (add_lists l.lists.items (drop l.subject-index l.subjects) ≡ add_lists l.fn.lists.items l.subjects)
