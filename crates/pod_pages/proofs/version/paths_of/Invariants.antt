use Rattle.std.proofs.Common.{◌≡◌, map, take}
use Rattle.pod_command.specs.declared.row.Row.{Row}
use Rattle.pod_pages.proofs.version.paths_of.Given as goal

abbrev pub invariant-loop-row : goal.invariant-loop-row
invariant-loop-row l = l.paths.items ≡ map (λ (r : Row). r.path) (take l.row-index l.rows)
