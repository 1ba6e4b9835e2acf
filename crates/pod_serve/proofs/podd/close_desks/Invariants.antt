use Rattle.std.proofs.Common.{◌≡◌, ◌++◌, ◌≤◌, length, map, reverse}
use Rattle.std.specs.Option.{option_map}
use Rattle.pod_serve.proofs.podd.close_desks.Given as goal

abbrev pub invariant-loop-desk : goal.invariant-loop-desk
invariant-loop-desk g l = record {
  room : length l.desks.items ≤ g.O.Listen.room l.listen;
  back : option_map (λ back. back ++ reverse (map (λ desk. desk.rest.gate) l.desks.items)) (g.O.Listen.back l.listen) ≡ option_map (λ back. back ++ reverse (map (λ desk. desk.rest.gate) l.initial.desks.items)) (g.O.Listen.back l.initial.listen);
}

abbrev pub decreases-loop-desk : goal.decreases-loop-desk
decreases-loop-desk g l = length l.desks.items
