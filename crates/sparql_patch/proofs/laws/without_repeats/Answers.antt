use Rattle.sparql_patch.proofs.NamedLemmas.{without_repeats}
use Rattle.sparql_patch.proofs.laws.without_repeats.Goals as goal

pub returns : goal.returns
returns c = without_repeats
