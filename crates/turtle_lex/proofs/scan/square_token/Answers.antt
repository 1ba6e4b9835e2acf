use Rattle.turtle_lex.proofs.TokenLemmas.{anon_token, open_square_token, no_square_token}
use Rattle.turtle_lex.proofs.scan.square_token.Goals as goal

pub returns-in-Some-strip_word-clause-found : goal.returns-in-Some-strip_word-clause-found
returns-in-Some-strip_word-clause-found c = anon_token _ _ _ _ c.in-Some.ensures.matches c.strip_run.ensures.run c.in-Some-strip_word.ensures.matches

pub returns-in-None-strip_word-clause-found : goal.returns-in-None-strip_word-clause-found
returns-in-None-strip_word-clause-found c = open_square_token _ _ _ c.in-Some.ensures.matches c.strip_run.ensures.run c.in-None-strip_word.ensures.matches

pub returns-in-None-clause-none : goal.returns-in-None-clause-none
returns-in-None-clause-none c = no_square_token _ c.in-None.ensures.matches
