use Rattle.std.proofs.Common.{◌≤◌, ◌^◌, subst}
use Rattle.pod_pages.specs.State.{VersionState}
use Rattle.pod_pages.proofs.version.Version.seq.Goals as goal

pub returns-clause-most : goal.returns-clause-most
returns-clause-most c = subst (λ (s : VersionState). s.next ≤ 2 ^ 63) c.self.view_is c.self.invariant.number
