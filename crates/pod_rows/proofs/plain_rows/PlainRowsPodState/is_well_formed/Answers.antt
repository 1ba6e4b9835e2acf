use Rattle.std.proofs.Common.{subst}
use Rattle.pod_rows.specs.State.{NumberedPod}
use Rattle.pod_rows.specs.WellFormed.{WellFormed}
use Rattle.pod_rows.proofs.plain_rows.PlainRowsPodState.is_well_formed.Goals as goal

pub returns : goal.returns
returns c = subst (λ (s : NumberedPod). WellFormed s.pod) c.self.view_is c.self.invariant.well_formed
