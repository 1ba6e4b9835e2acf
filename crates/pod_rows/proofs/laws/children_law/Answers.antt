use Rattle.pod_rows.proofs.DefinitionLaws.{child_row}
use Rattle.pod_rows.proofs.laws.children_law.Goals as goal

pub returns : goal.returns
returns c = λ pod container child h. child_row pod.rows container child h
