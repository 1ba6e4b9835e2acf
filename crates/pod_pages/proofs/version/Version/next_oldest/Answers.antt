use Rattle.std.proofs.Common.{◌≤◌, subst}
use Rattle.pod_pages.specs.State.{VersionState}
use Rattle.pod_pages.proofs.version.Version.next_oldest.Goals as goal

pub returns-clause-most : goal.returns-clause-most
returns-clause-most c = subst (λ (s : VersionState). s.oldest ≤ s.next) c.self.view_is c.self.invariant.kept
