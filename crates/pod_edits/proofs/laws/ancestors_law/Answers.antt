use Rattle.pod_edits.proofs.Trees.{ancestors_step}
use Rattle.pod_edits.proofs.laws.ancestors_law.Goals as goal

pub returns : goal.returns
returns c = ancestors_step
