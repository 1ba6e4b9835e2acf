use Rattle.turtle_lex.proofs.TokenLemmas.{variable_token, no_variable_after, no_variable_token}
use Rattle.turtle_lex.proofs.scan.variable_token.Goals as goal

pub returns-in-Some-strip_label-clause-found : goal.returns-in-Some-strip_label-clause-found
returns-in-Some-strip_label-clause-found c = variable_token _ _ _ c.in-Some.ensures.matches c.in-Some-strip_label.ensures

pub returns-in-None-strip_label-clause-none : goal.returns-in-None-strip_label-clause-none
returns-in-None-strip_label-clause-none c = no_variable_after _ _ c.in-Some.ensures.matches c.in-None-strip_label.ensures

pub returns-in-None-clause-none : goal.returns-in-None-clause-none
returns-in-None-clause-none c = no_variable_token _ c.in-None.ensures.matches
