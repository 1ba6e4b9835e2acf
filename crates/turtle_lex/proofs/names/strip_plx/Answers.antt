use Rattle.turtle_lex.proofs.NameLemmas.{plx_of_digits, plx_of_escape, no_plx}
use Rattle.turtle_lex.proofs.names.strip_plx.Goals as goal

pub returns-in-Some-clause-matches : goal.returns-in-Some-clause-matches
returns-in-Some-clause-matches c = plx_of_digits _ _ _ c.in-Some.ensures.matches c.strip_two_digits.ensures.matches

pub returns-in-Some-strip_word-clause-matches : goal.returns-in-Some-strip_word-clause-matches
returns-in-Some-strip_word-clause-matches c = plx_of_escape _ _ _ c.in-None.ensures.matches c.in-Some-strip_word.ensures.matches c.strip_one.ensures.matches

pub returns-in-None-strip_word-clause-matches : goal.returns-in-None-strip_word-clause-matches
returns-in-None-strip_word-clause-matches c = no_plx _ c.in-None.ensures.matches c.in-None-strip_word.ensures.matches
