use Rattle.turtle_lex.proofs.WordLemmas.{no_tag_token}
use Rattle.turtle_lex.proofs.scan.tag_token.Goals as goal

pub returns-in-None-clause-none : goal.returns-in-None-clause-none
returns-in-None-clause-none c = no_tag_token _ c.in-None.ensures
