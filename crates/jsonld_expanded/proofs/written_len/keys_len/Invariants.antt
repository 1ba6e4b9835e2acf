use Rattle.std.proofs.Common.{length, ◌-◌, ◌≤◌, drop}
use Rattle.jsonld_expanded.specs.Runs.{runs}
use Rattle.jsonld_expanded.specs.Widths.{keys_width}
use Rattle.jsonld_expanded.specs.Written.{same_key_by_ref}
use Rattle.jsonld_expanded.proofs.Adding.{by_ref}
use Rattle.jsonld_expanded.proofs.Widths.{HasLeftLen}
use Rattle.jsonld_expanded.proofs.written_len.keys_len.Given as goal

abbrev pub invariant-loop-at : goal.invariant-loop-at
invariant-loop-at l = (l.at ≤ length l.triples)
    × HasLeftLen l.len (keys_width (by_ref (runs same_key_by_ref (drop l.at l.triples)))) (keys_width (by_ref (runs same_key_by_ref l.triples)))

abbrev pub decreases-loop-at : goal.decreases-loop-at
decreases-loop-at l = length l.triples - l.at
