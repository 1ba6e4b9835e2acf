use Rattle.pod_rows.proofs.DefinitionLaws.{kept_by}
use Rattle.pod_rows.proofs.laws.entries_law.Goals as goal

pub returns : goal.returns
returns c = kept_by
