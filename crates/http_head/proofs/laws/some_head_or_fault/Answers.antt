use Rattle.http_head.proofs.HeadLaws.{some_finding}
use Rattle.http_head.proofs.laws.some_head_or_fault.Goals as goal

pub returns : goal.returns
returns c = some_finding
