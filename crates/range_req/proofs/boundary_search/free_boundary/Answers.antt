use Rattle.std.proofs.Common.{ap, ◌∙◌}
use Rattle.range_req.specs.Multipart.{boundary, free_boundary}
use Rattle.range_req.proofs.boundary_search.free_boundary.Goals as goal

pub returns-clause-named : goal.returns-clause-named
unfolding free_boundary
returns-clause-named c = c.in_ok-boundary.ensures ∙ ap boundary c.in_ok-number.ensures.number
