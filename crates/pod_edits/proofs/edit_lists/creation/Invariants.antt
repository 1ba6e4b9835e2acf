use Rattle.std.proofs.Common.{◌≡◌, map, take}
use Rattle.pod_edits.specs.Edits.{put_container}
use Rattle.pod_edits.proofs.edit_lists.creation.Given as goal

abbrev pub invariant-loop-path : goal.invariant-loop-path
invariant-loop-path l = l.edits.items ≡ map (put_container l.modified) (take l.path-index l.path-items)
