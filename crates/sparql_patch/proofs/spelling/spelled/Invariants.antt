use Rattle.std.proofs.Common.{◌≤◌, drop, length}
use Rattle.sparql_patch.specs.Progress.{HasRead}
use Rattle.sparql_patch.proofs.spelling.spelled.Given as goal

abbrev pub invariant-loop-left : goal.invariant-loop-left
invariant-loop-left l = record {
  within : l.left ≤ length l.namings;
  read : HasRead l.graph (drop l.left l.namings) l.seen l.patch;
}

abbrev pub decreases-loop-left : goal.decreases-loop-left
decreases-loop-left l = l.left
