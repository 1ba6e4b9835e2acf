use Rattle.pod_edits.proofs.KindLaws.{kind_fits}
use Rattle.pod_edits.proofs.laws.kind_law.Goals as goal

pub returns : goal.returns
returns c = kind_fits
