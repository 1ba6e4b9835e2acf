use Rattle.std.proofs.Common.{◌≡◌, length}
use Rattle.pod_rows.specs.SubjectOrder.{are_by_subject}
use Rattle.pod_rows.proofs.root_guard.are_by_subject.Given as goal

abbrev pub invariant-loop-triple : goal.invariant-loop-triple
invariant-loop-triple l = are_by_subject l.rest ≡ are_by_subject l.triples

abbrev pub decreases-loop-triple : goal.decreases-loop-triple
decreases-loop-triple l = length l.rest
