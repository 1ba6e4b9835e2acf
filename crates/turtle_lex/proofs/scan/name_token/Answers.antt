use Rattle.turtle_lex.proofs.WordLemmas.{pname_ln_token, pname_ns_token, names_found, names_none}
use Rattle.turtle_lex.proofs.scan.name_token.Goals as goal

pub returns-in-Some-strip_local-clause-found : goal.returns-in-Some-strip_local-clause-found
returns-in-Some-strip_local-clause-found c = pname_ln_token _ _ _ c.in-Some.ensures c.in-Some-strip_local.ensures

pub returns-in-None-strip_local-clause-found : goal.returns-in-None-strip_local-clause-found
returns-in-None-strip_local-clause-found c = pname_ns_token _ _ c.in-Some.ensures c.in-None-strip_local.ensures

pub returns-in-None-clause-found : goal.returns-in-None-clause-found
returns-in-None-clause-found c = names_found _ c.word_token.result (λ t. t.0) (λ t. t.1.now) c.in-None.ensures c.word_token.ensures.found

pub returns-in-None-clause-none : goal.returns-in-None-clause-none
returns-in-None-clause-none c = names_none _ c.word_token.result c.in-None.ensures c.word_token.ensures.none
