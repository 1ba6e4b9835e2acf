use Rattle.std.proofs.Common.{◌≡◌, drop}
use Rattle.access_index.specs.Tables.{AreInOrder, without_all}
use Rattle.access_index.proofs.path_table.remove_all.Given as goal

-- what is left to remove, removed from here, is all, removed from the first table
abbrev pub invariant-loop-path : goal.invariant-loop-path
invariant-loop-path l =
    AreInOrder l.entries.items
    × (without_all l.entries.items (drop l.path-index l.paths) ≡ without_all l.fn.entries.items l.paths)
