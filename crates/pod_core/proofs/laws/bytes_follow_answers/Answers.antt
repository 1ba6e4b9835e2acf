use Rattle.pod_core.proofs.AlikeAnswers.{alike_writes_same}
use Rattle.pod_core.proofs.laws.bytes_follow_answers.Goals as goal

pub returns : goal.returns
returns c = alike_writes_same
