use Rattle.std.proofs.Common.{length, ◌-◌}
use Rattle.jsonld_expanded.specs.Document.{same_subject}
use Rattle.jsonld_expanded.proofs.Runs.{IsRunSoFar}
use Rattle.jsonld_expanded.proofs.node_writing.subject_run.Given as goal

abbrev pub invariant-loop-len : goal.invariant-loop-len
invariant-loop-len l = IsRunSoFar same_subject l.triples l.len

abbrev pub decreases-loop-len : goal.decreases-loop-len
decreases-loop-len l = length l.triples - l.len
