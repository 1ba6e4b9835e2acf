use Rattle.std.proofs.Common.{◌≡◌, drop, take}
use Rattle.std.specs.List.{AllByRecursion}
use Rattle.pod_path.specs.Norm.{IsPath}
use Rattle.access_index.specs.Tables.{AreInOrder, add_paths}
use Rattle.access_index.proofs.table_changes.add_paths.Given as goal

-- what is left to add, added from here, is all, added to the first table
abbrev pub invariant-loop-path : goal.invariant-loop-path
invariant-loop-path l = record {
  order : AreInOrder l.entries.items;
  added : add_paths l.lists l.entries.items (drop l.path-index l.paths) ≡ add_paths l.lists l.fn.entries.items l.paths;
  paths : AllByRecursion IsPath (take l.path-index l.paths);
}
