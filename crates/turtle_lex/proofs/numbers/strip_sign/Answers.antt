use Rattle.turtle_lex.proofs.NumberLemmas.{signed_of, unsigned_of}
use Rattle.turtle_lex.proofs.numbers.strip_sign.Goals as goal

pub returns-in-Some-clause-signed : goal.returns-in-Some-clause-signed
returns-in-Some-clause-signed c = signed_of _ _ c.in-Some.ensures.matches

pub returns-in-None-clause-signed : goal.returns-in-None-clause-signed
returns-in-None-clause-signed c = unsigned_of _ c.in-None.ensures.matches
