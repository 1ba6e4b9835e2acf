use Rattle.sparql_patch.proofs.Namings.{one_named}
use Rattle.sparql_patch.proofs.laws.one_naming.Goals as goal

pub returns : goal.returns
returns c = one_named
