use Rattle.std.proofs.Common.{◌≡◌, [], drop}
use Rattle.n3_patch.specs.Parts.{with_formula}
use Rattle.n3_patch.specs.Progress.{HasPatterns}
use Rattle.n3_patch.proofs.patterns.formula_patterns.Given as goal

abbrev pub invariant-loop-triple : goal.invariant-loop-triple
invariant-loop-triple l = record {
  seen_are : HasPatterns l.seen l.patterns.items;
  left : with_formula l.index (drop l.triple-index l.triples) l.patterns.items ≡ with_formula l.index l.triples [];
}
