use Rattle.request_body.proofs.Once.{one_meaning}
use Rattle.request_body.proofs.laws.one_meaning.Goals as goal

pub returns : goal.returns
returns c = one_meaning
