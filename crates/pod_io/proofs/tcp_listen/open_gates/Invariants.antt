use Rattle.std.proofs.Common.{◌≡◌, length}
use Rattle.pod_io.proofs.tcp_listen.open_gates.Given as goal

abbrev pub invariant-loop : goal.invariant-loop
invariant-loop g l = length l.gates.items ≡ l.counter
