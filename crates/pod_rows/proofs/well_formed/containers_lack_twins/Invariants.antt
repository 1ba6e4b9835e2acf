use Rattle.std.proofs.Common.{◌≡◌, take, true}
use Rattle.std.specs.List.{list_all}
use Rattle.pod_rows.specs.WellFormedTests.{lacks_container_twin}
use Rattle.pod_rows.proofs.well_formed.containers_lack_twins.Given as goal

abbrev pub invariant-loop-row : goal.invariant-loop-row
invariant-loop-row l = list_all (lacks_container_twin l.rows) (take l.row-index l.rows) ≡ true
