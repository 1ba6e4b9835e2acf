use Rattle.std.specs.Char.{is_ascii_digit}
use Rattle.turtle_lex.specs.Classes.{is_pn_chars_u}
use Rattle.turtle_lex.proofs.Matching.{ones_found, ones_refused}
use Rattle.turtle_lex.proofs.names.strip_label_first.Goals as goal

pub returns-in-Some-clause-matches : goal.returns-in-Some-clause-matches
returns-in-Some-clause-matches c = ones_found is_pn_chars_u is_ascii_digit _ _ c.in-Some.ensures.matches

pub returns-in-None-clause-matches : goal.returns-in-None-clause-matches
returns-in-None-clause-matches c = ones_refused is_pn_chars_u is_ascii_digit _ _ c.in-None.ensures.matches c.strip_one-in-None.ensures.matches
