use Rattle.std.proofs.Common.{◌≡◌, ◌+◌, ◌*◌, List, ℕ, ◌++◌, length}
use Rattle.http_conn.specs.ParserStates.{IsSoundState}
use Rattle.http_conn.specs.ParserSteps.{StepsTo, measure}
use Rattle.http_conn.proofs.parse_piece.parse_piece.Given as goal

-- the bytes so far are parsed
abbrev pub invariant-loop-rest : goal.invariant-loop-rest
invariant-loop-rest l = IsSoundState l.state × ((done : List ℕ) × (l.piece ≡ done ++ l.rest) × StepsTo l.fn.state l.fn.events.items done l.state l.events.items)

abbrev pub decreases-loop-rest : goal.decreases-loop-rest
decreases-loop-rest l = 2 * length l.rest + measure l.state
