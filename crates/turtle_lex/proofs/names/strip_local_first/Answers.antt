use Rattle.turtle_lex.proofs.NameLemmas.{local_of_letter, local_of_digit, local_of_other}
use Rattle.turtle_lex.proofs.names.strip_local_first.Goals as goal

pub returns-in-Some-clause-matches : goal.returns-in-Some-clause-matches
returns-in-Some-clause-matches c = local_of_letter _ _ c.in-Some.ensures.matches

pub returns-in-Some-strip_one-clause-matches : goal.returns-in-Some-strip_one-clause-matches
returns-in-Some-strip_one-clause-matches c = local_of_digit _ _ c.in-None.ensures.matches c.in-Some-strip_one.ensures.matches

pub returns-in-None-strip_one-clause-matches : goal.returns-in-None-strip_one-clause-matches
returns-in-None-strip_one-clause-matches c = local_of_other _ _ c.in-None.ensures.matches c.in-None-strip_one.ensures.matches c.strip_colon_or_plx.ensures.matches
