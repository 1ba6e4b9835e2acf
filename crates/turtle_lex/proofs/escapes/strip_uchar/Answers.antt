use Rattle.turtle_lex.proofs.EscapeLemmas.{uchar_of_four, uchar_of_eight, no_uchar}
use Rattle.turtle_lex.proofs.escapes.strip_uchar.Goals as goal

pub returns-in-Some-clause-matches : goal.returns-in-Some-clause-matches
returns-in-Some-clause-matches c = uchar_of_four _ _ _ c.in-Some.ensures.matches c.strip_number.ensures.matches

pub returns-in-Some-strip_word-clause-matches : goal.returns-in-Some-strip_word-clause-matches
returns-in-Some-strip_word-clause-matches c = uchar_of_eight _ _ _ c.in-None.ensures.matches c.in-Some-strip_word.ensures.matches c.strip_number-in-Some-strip_word.ensures.matches

pub returns-in-None-strip_word-clause-matches : goal.returns-in-None-strip_word-clause-matches
returns-in-None-strip_word-clause-matches c = no_uchar _ c.in-None.ensures.matches c.in-None-strip_word.ensures.matches
