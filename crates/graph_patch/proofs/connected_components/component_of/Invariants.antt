use Rattle.std.proofs.Common.{◌≡◌, take, map, eqb}
use Rattle.graph_patch.specs.ConnectedComponents.{selected}
use Rattle.graph_patch.proofs.connected_components.component_of.Given as goal

abbrev pub invariant-loop-i : goal.invariant-loop-i
invariant-loop-i l = map (λ c. c.now) l.component.items ≡ selected (λ k. eqb k l.label) (take l.i l.conditions) (take l.i l.labels)
