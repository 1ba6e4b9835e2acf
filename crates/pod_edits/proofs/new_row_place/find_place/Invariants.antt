use Rattle.std.proofs.Common.{length}
use Rattle.pod_edits.proofs.Places.{Walk}
use Rattle.pod_edits.proofs.new_row_place.find_place.Given as goal

abbrev pub decreases-loop-alloc : goal.decreases-loop-alloc
decreases-loop-alloc g l = length l.above

abbrev pub invariant-loop-alloc : goal.invariant-loop-alloc
invariant-loop-alloc g l = Walk (g.S.PodState.pod l.state).rows l.path l.above l.missing.items
