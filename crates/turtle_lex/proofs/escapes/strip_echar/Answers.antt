use Rattle.turtle_lex.proofs.EscapeLemmas.{echar_matches, no_echar}
use Rattle.turtle_lex.proofs.escapes.strip_echar.Goals as goal

pub returns-in-Some-clause-matches : goal.returns-in-Some-clause-matches
returns-in-Some-clause-matches c = echar_matches _ _ _ c.in-Some.ensures.matches c.strip_one.ensures.matches

pub returns-in-None-clause-matches : goal.returns-in-None-clause-matches
returns-in-None-clause-matches c = no_echar _ c.in-None.ensures.matches
