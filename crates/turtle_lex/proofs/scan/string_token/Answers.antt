use Rattle.turtle_lex.proofs.TokenLemmas.{double_string, single_string, no_string_token}
use Rattle.turtle_lex.proofs.scan.string_token.Goals as goal

pub returns-in-Some-clause-found : goal.returns-in-Some-clause-found
returns-in-Some-clause-found c = double_string _ _ c.in-Some.ensures.matches

pub returns-in-Some-strip_string-clause-found : goal.returns-in-Some-strip_string-clause-found
returns-in-Some-strip_string-clause-found c = single_string _ _ c.in-Some-strip_string.ensures.matches

pub returns-in-None-strip_string-clause-none : goal.returns-in-None-strip_string-clause-none
returns-in-None-strip_string-clause-none c = no_string_token _ c.in-None.ensures.matches c.in-None-strip_string.ensures.matches
