use Rattle.turtle_terms.proofs.iris.iri_at.Goals as goal

pub returns-in-Some-clause-iri : goal.returns-in-Some-clause-iri
returns-in-Some-clause-iri c = c.in-Some.ensures c.args.base.now
