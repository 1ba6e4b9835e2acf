use Rattle.turtle_lex.proofs.NameLemmas.{local_longest, no_local}
use Rattle.turtle_lex.proofs.names.strip_local.Goals as goal

pub returns-in-Some : goal.returns-in-Some
returns-in-Some c = local_longest _ c.in-Some.rest.now c.strip_tail.result.0.now c.strip_tail.result.1.now c.in-Some.ensures.matches c.strip_tail.ensures.name

pub returns-in-None : goal.returns-in-None
returns-in-None c = no_local _ c.in-None.ensures.matches
