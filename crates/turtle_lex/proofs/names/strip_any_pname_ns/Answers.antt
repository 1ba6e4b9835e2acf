use Rattle.turtle_lex.proofs.NameLemmas.{ns_of_colon, ns_of_prefix}
use Rattle.turtle_lex.proofs.names.strip_any_pname_ns.Goals as goal

pub returns-in-Some : goal.returns-in-Some
returns-in-Some c = ns_of_colon _ _ c.in-Some.ensures.matches

pub returns-in-None : goal.returns-in-None
returns-in-None c = ns_of_prefix _ _ c.in-None.ensures.matches c.strip_prefix.ensures
