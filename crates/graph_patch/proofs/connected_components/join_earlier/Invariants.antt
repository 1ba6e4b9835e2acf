use Rattle.std.proofs.Common.{◌<◌, length}
use Rattle.std.specs.List.{All}
use Rattle.graph_patch.specs.ConnectedComponents.{AreLabelledSoFar}
use Rattle.graph_patch.proofs.connected_components.join_earlier.Given as goal

abbrev pub invariant-loop-j : goal.invariant-loop-j
invariant-loop-j l =
    record {
      small : All (λ label. label < length l.conditions) l.labels;
      joined : AreLabelledSoFar l.conditions l.labels l.i l.j;
    }
