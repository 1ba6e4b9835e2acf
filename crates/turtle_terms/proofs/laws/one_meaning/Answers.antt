use Rattle.turtle_terms.proofs.Meanings.{one_iri, one_term}
use Rattle.turtle_terms.proofs.laws.one_meaning.Goals as goal

pub returns-clause-iri : goal.returns-clause-iri
returns-clause-iri c = one_iri

pub returns-clause-term : goal.returns-clause-term
returns-clause-term c = one_term
