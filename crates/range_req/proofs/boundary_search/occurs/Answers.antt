use Rattle.std.proofs.Common.{arith}
use Rattle.range_req.proofs.boundary_search.occurs.Goals as goal

-- an occurrence is within the body
pub returns-in-None-clause-no : goal.returns-in-None-clause-no
returns-in-None-clause-no c = λ e o. c.in-None.ensures o.0 (omega arith) (omega (arith, o.1.fits)) o.1
