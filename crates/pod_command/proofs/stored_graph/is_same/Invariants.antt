use Rattle.std.proofs.Common.{◌≡◌, length, take}
use Rattle.pod_command.proofs.stored_graph.is_same.Given as goal

-- equal up to here
abbrev pub invariant-loop-i : goal.invariant-loop-i
invariant-loop-i l = record { alike : take l.i l.a ≡ take l.i l.b; long : length l.a ≡ length l.b }
