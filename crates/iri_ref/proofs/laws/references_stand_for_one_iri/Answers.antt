use Rattle.iri_ref.proofs.Written.{one_iri, absolute_itself}
use Rattle.iri_ref.proofs.laws.references_stand_for_one_iri.Goals as goal

pub returns-clause-unique : goal.returns-clause-unique
returns-clause-unique c = one_iri

pub returns-clause-itself : goal.returns-clause-itself
returns-clause-itself c = absolute_itself
