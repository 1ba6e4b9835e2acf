use Rattle.std.proofs.Common.{length, ◌-◌, ◌≤◌, All, drop, take}
use Rattle.jsonld_expanded.specs.Document.{same_subject}
use Rattle.jsonld_expanded.specs.Runs.{runs}
use Rattle.jsonld_expanded.specs.Widths.{nodes_width}
use Rattle.jsonld_expanded.specs.Written.{HasAbsoluteIris}
use Rattle.jsonld_expanded.proofs.Widths.{HasLeftLen}
use Rattle.jsonld_expanded.proofs.written_len.nodes_len.Given as goal

abbrev pub invariant-loop-at : goal.invariant-loop-at
invariant-loop-at l = (l.at ≤ length l.triples)
    × HasLeftLen l.len (nodes_width (runs same_subject (drop l.at l.triples))) (nodes_width (runs same_subject l.triples))
    × All HasAbsoluteIris (take l.at l.triples)

abbrev pub decreases-loop-at : goal.decreases-loop-at
decreases-loop-at l = length l.triples - l.at
