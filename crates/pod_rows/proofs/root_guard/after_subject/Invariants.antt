use Rattle.std.proofs.Common.{◌≡◌, length}
use Rattle.pod_rows.specs.SubjectOrder.{after_subject}
use Rattle.pod_rows.proofs.root_guard.after_subject.Given as goal

abbrev pub invariant-loop-triple : goal.invariant-loop-triple
invariant-loop-triple l = after_subject l.node l.rest ≡ after_subject l.node l.triples

abbrev pub decreases-loop-triple : goal.decreases-loop-triple
decreases-loop-triple l = length l.rest
