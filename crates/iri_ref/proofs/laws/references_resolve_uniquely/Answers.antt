use Rattle.iri_ref.proofs.Resolving.{references_resolve_uniquely, stays_resolved}
use Rattle.iri_ref.proofs.laws.references_resolve_uniquely.Goals as goal

pub returns-clause-unique : goal.returns-clause-unique
returns-clause-unique c = references_resolve_uniquely

pub returns-clause-itself : goal.returns-clause-itself
returns-clause-itself c = λ base text h. stays_resolved base text h.scheme
