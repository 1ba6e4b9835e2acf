use Rattle.turtle_lex.proofs.NameLemmas.{prefix_matches, prefix_ends_in_dot, no_prefix}
use Rattle.turtle_lex.proofs.names.strip_prefix.Goals as goal

pub returns-then-end-stop : goal.returns-then-end-stop
returns-then-end-stop c = prefix_matches _ c.in-Some.rest.now c.strip_tail.result.0.now c.strip_tail.result.1.now _ c.in-Some.ensures.matches c.strip_tail.ensures.name c.if-end-stop.true c.strip_word.ensures.matches

pub returns-else-end-stop : goal.returns-else-end-stop
returns-else-end-stop c = prefix_ends_in_dot _ c.in-Some.rest.now c.strip_tail.result.0.now c.strip_tail.result.1.now c.in-Some.ensures.matches c.strip_tail.ensures.name c.if-end-stop.false

pub returns-in-None : goal.returns-in-None
returns-in-None c = no_prefix _ c.in-None.ensures.matches
