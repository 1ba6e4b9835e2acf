use Rattle.std.proofs.Common.{length}
use Rattle.turtle_lex.proofs.RunLemmas.{TagRun}
use Rattle.turtle_lex.proofs.char_runs.strip_tag_parts.Given as goal

abbrev pub invariant-loop-part : goal.invariant-loop-part
invariant-loop-part l = TagRun l.text l.rest

abbrev pub decreases-loop-part : goal.decreases-loop-part
decreases-loop-part l = length l.rest
