use Rattle.iri_ref.proofs.Splits.{some_split, texts_split_uniquely}
use Rattle.iri_ref.proofs.laws.texts_split_uniquely.Goals as goal

pub returns-clause-exists : goal.returns-clause-exists
returns-clause-exists c = some_split

pub returns-clause-unique : goal.returns-clause-unique
returns-clause-unique c = texts_split_uniquely
