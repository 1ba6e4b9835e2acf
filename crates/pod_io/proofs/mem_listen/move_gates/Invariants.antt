use Rattle.std.proofs.Common.{◌≡◌, ◌≤◌, ◌+◌, ◌++◌, List, drop, length}
use Rattle.pod_io.specs.Gates.{OpensFirst}
use Rattle.pod_io.proofs.mem_listen.move_gates.Given as goal

abbrev pub invariant-loop : goal.invariant-loop
invariant-loop g l = record {
  counted : length l.gates.items ≡ l.counter;
  room : l.count ≤ l.counter + l.gates.room;
  first : (more : List _) → OpensFirst l.rest.items more
      → OpensFirst l.initial.rest.items (l.gates.items ++ more);
  rest : l.rest.items ≡ drop l.counter l.initial.rest.items;
}
