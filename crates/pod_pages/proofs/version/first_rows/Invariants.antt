use Rattle.std.proofs.Common.{◌≡◌, ◌++◌, map}
use Rattle.pod_pages.specs.Versions.{unmarked}
use Rattle.pod_pages.proofs.version.first_rows.Given as goal

abbrev pub invariant-loop-row : goal.invariant-loop-row
invariant-loop-row l = l.items.items ++ map unmarked l.row-iterator.rest.items ≡ map unmarked l.fn.rows.items
