use Rattle.std.proofs.Common.{◌≡◌, map, take}
use Rattle.pod_pages.specs.Versions.{path_of_edit}
use Rattle.pod_pages.proofs.version.edit_paths.Given as goal

abbrev pub invariant-loop-edit : goal.invariant-loop-edit
invariant-loop-edit l = l.paths.items ≡ map path_of_edit (take l.edit-index l.edits)
