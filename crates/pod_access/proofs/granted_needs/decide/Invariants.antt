use Rattle.std.proofs.Common.{◌≡◌, drop}
use Rattle.pod_access.specs.Bases.{bases_of}
use Rattle.pod_access.proofs.BasisLemmas.{prepended}
use Rattle.pod_access.proofs.granted_needs.decide.Given as goal

-- the bases so far and those of the other needs are those of all
abbrev pub invariant-loop-need : goal.invariant-loop-need
invariant-loop-need g l =
    prepended l.bases.items (bases_of (g.S.PodState.pod l.state) l.agent (drop l.need-index l.need-items))
    ≡ bases_of (g.S.PodState.pod l.state) l.agent l.need-items
