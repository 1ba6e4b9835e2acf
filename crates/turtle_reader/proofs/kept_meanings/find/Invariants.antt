use Rattle.std.proofs.Common.{List, All, length}
use Rattle.turtle_reader.specs.declared.meaning.Meaning.{Meaning}
use Rattle.turtle_reader.specs.Kept.{IsKept, Has}
use Rattle.turtle_reader.proofs.kept_meanings.find.Given as goal

abbrev pub invariant-loop-last : goal.invariant-loop-last
invariant-loop-last l = record {
  all : (all : List Meaning) → All (IsKept all) l.kept → All (IsKept all) l.left;
  has : Has l.index l.kept → Has l.index l.left;
}

abbrev pub decreases-loop-last : goal.decreases-loop-last
decreases-loop-last l = length l.left
