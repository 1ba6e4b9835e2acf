use Rattle.std.proofs.Common.{◌≤◌, Bool, List, length}
use Rattle.range_req.specs.Boundaries.{AreNoted, longer_numbers}
use Rattle.range_req.proofs.boundary_search.note_longer.Given as goal

-- what the rest adds, the whole adds
abbrev pub invariant-loop-digit : goal.invariant-loop-digit
invariant-loop-digit l = record {
  some : 1 ≤ l.number;
  adds : (new : List Bool) → AreNoted l.noted new (longer_numbers l.number l.rest) → AreNoted l.fn.noted new (longer_numbers l.from l.text);
}

abbrev pub decreases-loop-digit : goal.decreases-loop-digit
decreases-loop-digit l = length l.rest
