use Rattle.std.proofs.Common.{◌≤◌, length}
use Rattle.turtle_lex.specs.ClassOf.{in_class}
use Rattle.turtle_lex.specs.Pattern.{one, many, Matches}
use Rattle.turtle_lex.proofs.char_runs.strip_run.Given as goal

abbrev pub invariant-loop-after : goal.invariant-loop-after
invariant-loop-after l = record {
  found : Matches (many (one (in_class l.class))) l.text l.rest;
  no_longer : length l.rest ≤ length l.text;
}

abbrev pub decreases-loop-after : goal.decreases-loop-after
decreases-loop-after l = length l.rest
