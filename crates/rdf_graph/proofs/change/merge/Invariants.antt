use Rattle.std.proofs.Common.{◌+◌, ◌-◌, ◌≤◌, length}
use Rattle.rdf_graph.proofs.Merging.{IsMerging}
use Rattle.rdf_graph.proofs.change.merge.Given as goal

abbrev pub invariant-loop-i : goal.invariant-loop-i
invariant-loop-i l =
    record {
      merging : IsMerging l.old l.removed l.added l.i l.j l.k l.new.items;
      within_old : l.i ≤ length l.old;
      within_added : l.k ≤ length l.added;
    }

abbrev pub decreases-loop-i : goal.decreases-loop-i
decreases-loop-i l = (length l.old - l.i) + ((length l.removed - l.j) + (length l.added - l.k))
