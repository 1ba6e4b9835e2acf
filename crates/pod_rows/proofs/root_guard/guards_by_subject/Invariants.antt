use Rattle.std.proofs.Common.{◌≡◌, true, length}
use Rattle.pod_rows.specs.Guard.{guards}
use Rattle.pod_rows.specs.SubjectOrder.{are_by_subject}
use Rattle.pod_rows.proofs.root_guard.guards_by_subject.Given as goal

-- what is left has the guard where all triples have it
abbrev pub invariant-loop-first : goal.invariant-loop-first
invariant-loop-first l = record {
  same : guards l.base l.owner l.rest ≡ guards l.base l.owner l.triples;
  order : are_by_subject l.rest ≡ true;
}

abbrev pub decreases-loop-first : goal.decreases-loop-first
decreases-loop-first l = length l.rest
