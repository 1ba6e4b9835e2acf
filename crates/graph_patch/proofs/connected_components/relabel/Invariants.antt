use Rattle.std.proofs.Common.{◌≡◌, take, drop, map, cond, eqb}
use Rattle.graph_patch.proofs.connected_components.relabel.Given as goal

abbrev pub invariant-loop-label : goal.invariant-loop-label
invariant-loop-label l =
    record {
      done : take l.label-index l.labels ≡ map (λ label. cond (eqb label l.from) l.to label) (take l.label-index l.initial.labels);
      left : drop l.label-index l.labels ≡ drop l.label-index l.initial.labels;
    }
