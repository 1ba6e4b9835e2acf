use Rattle.slug_naming.proofs.FirstName.{one_free_name}
use Rattle.slug_naming.proofs.laws.one_name.Goals as goal

pub returns : goal.returns
returns c = one_free_name
