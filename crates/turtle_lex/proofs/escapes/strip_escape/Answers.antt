use Rattle.turtle_lex.specs.Terminals.{uchar, echar}
use Rattle.turtle_lex.proofs.Matching.{or_left, or_right}
use Rattle.turtle_lex.proofs.EscapeLemmas.{not_both_escapes}
use Rattle.turtle_lex.proofs.escapes.strip_escape.Goals as goal

pub returns-in-Some-clause-matches : goal.returns-in-Some-clause-matches
returns-in-Some-clause-matches c = or_left echar uchar _ _ c.in-Some.ensures.matches (not_both_escapes _ _ c.in-Some.ensures.matches.found)

pub returns-in-None-clause-matches : goal.returns-in-None-clause-matches
returns-in-None-clause-matches c = or_right echar uchar _ _ c.in-None.ensures.matches c.strip_uchar.ensures.matches
