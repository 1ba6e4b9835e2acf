use Rattle.std.proofs.Common.{◌≡◌, ◌+◌, ◌≤◌, length}
use Rattle.live_cases.proofs.session_runs.seat_all.Given as goal

abbrev pub invariant-loop-session : goal.invariant-loop-session
invariant-loop-session g l =
    (length l.desks.items + length l.sessions.items ≡ length l.initial.sessions.items) × (length l.sessions.items ≤ l.desks.room)

abbrev pub decreases-loop-session : goal.decreases-loop-session
decreases-loop-session g l = length l.sessions.items
