use Rattle.n3_patch.proofs.Meant.{one_spelled_patch}
use Rattle.n3_patch.proofs.laws.one_spelled_patch.Goals as goal

pub returns : goal.returns
returns c = one_spelled_patch
