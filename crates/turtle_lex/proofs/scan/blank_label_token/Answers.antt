use Rattle.turtle_lex.proofs.TokenLemmas.{label_token, no_label_after, no_label_token}
use Rattle.turtle_lex.proofs.scan.blank_label_token.Goals as goal

pub returns-in-Some-strip_label-clause-found : goal.returns-in-Some-strip_label-clause-found
returns-in-Some-strip_label-clause-found c = label_token _ _ _ c.in-Some.ensures.matches c.in-Some-strip_label.ensures

pub returns-in-None-strip_label-clause-none : goal.returns-in-None-strip_label-clause-none
returns-in-None-strip_label-clause-none c = no_label_after _ _ c.in-Some.ensures.matches c.in-None-strip_label.ensures

pub returns-in-None-clause-none : goal.returns-in-None-clause-none
returns-in-None-clause-none c = no_label_token _ c.in-None.ensures.matches
