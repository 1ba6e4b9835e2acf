use Rattle.std.proofs.Common.{◌≤◌, length}
use Rattle.turtle_lex.specs.Pattern.{◌∘◌, many}
use Rattle.turtle_lex.specs.Delimited.{part, close}
use Rattle.turtle_lex.proofs.Matching.{SameEnds}
use Rattle.turtle_lex.proofs.delimited.strip_inside.Given as goal

abbrev pub invariant-loop-after : goal.invariant-loop-after
invariant-loop-after l = record {
  same : SameEnds (many (part l.inside) ∘ close l.inside) l.text l.rest;
  shorter : length l.rest ≤ length l.text;
}

abbrev pub decreases-loop-after : goal.decreases-loop-after
decreases-loop-after l = length l.rest
