use Rattle.std.proofs.Common.{subst}
use Rattle.pod_rows.specs.WellFormed.{WellFormed}
use Rattle.pod_pages.specs.State.{VersionState}
use Rattle.pod_pages.proofs.version.VersionPodState.is_well_formed.Goals as goal

pub returns : goal.returns
returns c = subst (λ (s : VersionState). WellFormed s.pod) c.self.view_is c.self.invariant.well_formed
