use Rattle.std.proofs.Common.{◌≡◌, ◌<◌, Some, true, false, take, length}
use Rattle.std.specs.Prelude.{IfSome, IfNone, slice_get}
use Rattle.std.specs.List.{All}
use Rattle.graph_patch.proofs.solution_search.next_condition.Given as goal

abbrev pub invariant-loop-i : goal.invariant-loop-i
invariant-loop-i l =
    record {
      free : IfSome l.best (λ i. slice_get l.taken i ≡ Some false);
      within : IfSome l.best (λ i. i < length l.taken);
      all_taken : IfNone l.best (All (λ is_taken. is_taken ≡ true) (take l.i l.taken));
    }
