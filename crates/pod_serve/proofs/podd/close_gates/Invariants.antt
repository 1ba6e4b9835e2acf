use Rattle.std.proofs.Common.{◌≡◌, ◌++◌, ◌≤◌, length, reverse}
use Rattle.std.specs.Option.{option_map}
use Rattle.pod_serve.proofs.podd.close_gates.Given as goal

abbrev pub invariant-loop-gate : goal.invariant-loop-gate
invariant-loop-gate g l = record {
  room : length l.gates.items ≤ g.O.Listen.room l.listen;
  back : option_map (λ back. back ++ reverse l.gates.items) (g.O.Listen.back l.listen) ≡ option_map (λ back. back ++ reverse l.initial.gates.items) (g.O.Listen.back l.initial.listen);
}

abbrev pub decreases-loop-gate : goal.decreases-loop-gate
decreases-loop-gate g l = length l.gates.items
