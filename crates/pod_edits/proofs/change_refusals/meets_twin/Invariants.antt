use Rattle.std.proofs.Common.{◌≡◌, take, false}
use Rattle.std.specs.List.{list_any}
use Rattle.pod_edits.proofs.Places.{has_twin_row}
use Rattle.pod_edits.proofs.change_refusals.meets_twin.Given as goal

abbrev pub invariant-loop-container : goal.invariant-loop-container
invariant-loop-container g l = list_any (has_twin_row (g.S.PodState.pod l.state).rows) (take l.container-index l.container-items) ≡ false
