use Rattle.std.proofs.Common.{◌≡◌, length}
use Rattle.pod_rows.specs.WellFormedTests.{in_order}
use Rattle.pod_rows.proofs.well_formed.are_in_order.Given as goal

abbrev pub invariant-loop-row : goal.invariant-loop-row
invariant-loop-row l = in_order l.rest ≡ in_order l.rows

abbrev pub decreases-loop-row : goal.decreases-loop-row
decreases-loop-row l = length l.rest
