use Rattle.std.proofs.Common.{Bool, List, length}
use Rattle.range_req.specs.Boundaries.{AreNoted, body_numbers}
use Rattle.range_req.proofs.boundary_search.note_body.Given as goal

-- what the rest adds, the whole adds
abbrev pub invariant-loop-first : goal.invariant-loop-first
invariant-loop-first l = (new : List Bool) → AreNoted l.noted new (body_numbers l.rest) → AreNoted l.fn.noted new (body_numbers l.body)

abbrev pub decreases-loop-first : goal.decreases-loop-first
decreases-loop-first l = length l.rest
