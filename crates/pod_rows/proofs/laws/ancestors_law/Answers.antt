use Rattle.pod_rows.proofs.DefinitionLaws.{above_under}
use Rattle.pod_rows.proofs.laws.ancestors_law.Goals as goal

pub returns : goal.returns
returns c = above_under
