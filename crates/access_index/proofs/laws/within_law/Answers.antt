use Rattle.access_index.proofs.Within.{within_is}
use Rattle.access_index.proofs.laws.within_law.Goals as goal

pub returns : goal.returns
returns c = within_is
