use Rattle.turtle_lex.proofs.DelimitedLemmas.{iri_ref_matches, no_iri_ref}
use Rattle.turtle_lex.proofs.delimited.strip_iri_ref.Goals as goal

pub returns-in-Some-clause-matches : goal.returns-in-Some-clause-matches
returns-in-Some-clause-matches c = iri_ref_matches _ _ _ c.in-Some.ensures.matches c.strip_inside.ensures.matches

pub returns-in-None-clause-matches : goal.returns-in-None-clause-matches
returns-in-None-clause-matches c = no_iri_ref _ c.in-None.ensures.matches
