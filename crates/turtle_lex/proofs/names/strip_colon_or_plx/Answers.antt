use lib.Chars.{codes}
use Rattle.turtle_lex.specs.Pattern.{word}
use Rattle.turtle_lex.specs.Terminals.{plx}
use Rattle.turtle_lex.proofs.Matching.{or_left, or_right}
use Rattle.turtle_lex.proofs.NameLemmas.{colon_no_plx}
use Rattle.turtle_lex.proofs.names.strip_colon_or_plx.Goals as goal

pub returns-in-Some-clause-matches : goal.returns-in-Some-clause-matches
returns-in-Some-clause-matches c = or_left (word (codes ":")) plx _ _ c.in-Some.ensures.matches (colon_no_plx _ _ c.in-Some.ensures.matches.found)

pub returns-in-None-clause-matches : goal.returns-in-None-clause-matches
returns-in-None-clause-matches c = or_right (word (codes ":")) plx _ _ c.in-None.ensures.matches c.strip_plx.ensures.matches
