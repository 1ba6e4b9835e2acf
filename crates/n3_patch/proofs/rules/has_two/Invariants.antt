use Rattle.std.proofs.Common.{◌≡◌, length}
use Rattle.n3_patch.specs.Parts.{gives_formula}
use Rattle.n3_patch.specs.Rules.{has_two}
use Rattle.n3_patch.proofs.rules.has_two.Given as goal

abbrev pub invariant-loop-first : goal.invariant-loop-first
invariant-loop-first l = has_two (gives_formula l.resource l.part) l.left ≡ has_two (gives_formula l.resource l.part) l.triples

abbrev pub decreases-loop-first : goal.decreases-loop-first
decreases-loop-first l = length l.left
