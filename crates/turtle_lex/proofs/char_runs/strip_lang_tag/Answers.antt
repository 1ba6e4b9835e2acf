use Rattle.turtle_lex.proofs.RunLemmas.{tag_longest, no_tag, no_at}
use Rattle.turtle_lex.proofs.char_runs.strip_lang_tag.Goals as goal

pub returns-in-Some-strip_some : goal.returns-in-Some-strip_some
returns-in-Some-strip_some c = tag_longest _ _ c.in-Some-strip_some.rest.now _ c.in-Some.ensures.matches c.in-Some-strip_some.ensures.found c.strip_tag_parts.ensures

pub returns-in-None-strip_some : goal.returns-in-None-strip_some
returns-in-None-strip_some c = no_tag _ _ c.in-Some.ensures.matches c.in-None-strip_some.ensures.none

pub returns-in-None : goal.returns-in-None
returns-in-None c = no_at _ c.in-None.ensures.matches
