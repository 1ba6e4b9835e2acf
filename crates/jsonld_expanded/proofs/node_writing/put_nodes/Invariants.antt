use Rattle.std.proofs.Common.{length, ◌-◌, ◌≤◌, drop}
use Rattle.jsonld_expanded.specs.Document.{same_subject}
use Rattle.jsonld_expanded.specs.Runs.{runs}
use Rattle.jsonld_expanded.specs.Written.{nodes_tokens}
use Rattle.jsonld_expanded.proofs.Adding.{HasLeft}
use Rattle.jsonld_expanded.proofs.node_writing.put_nodes.Given as goal

abbrev pub invariant-loop-at : goal.invariant-loop-at
invariant-loop-at l = (l.at ≤ length l.triples)
    × HasLeft l.initial.writer l.writer (nodes_tokens (runs same_subject (drop l.at l.triples))) (nodes_tokens (runs same_subject l.triples))

abbrev pub decreases-loop-at : goal.decreases-loop-at
decreases-loop-at l = length l.triples - l.at
