use Rattle.std.proofs.Common.{◌≡◌, ◌<◌, length}
use Rattle.std.specs.List.{All}
use Rattle.graph_patch.specs.ConnectedComponents.{AreLabelledSoFar}
use Rattle.graph_patch.proofs.connected_components.label_components.Given as goal

-- the conditions so far have their labels
abbrev pub invariant-loop-i : goal.invariant-loop-i
invariant-loop-i l =
    record {
      long : length l.labels.items ≡ l.i;
      small : All (λ label. label < length l.conditions) l.labels.items;
      joined : AreLabelledSoFar l.conditions l.labels.items l.i 0;
    }
