use Rattle.std.proofs.Common.{◌∙◌}
use Rattle.std.proofs.lemmas.Result.{IfOk-weaker}
use Rattle.pod_rows.proofs.Relations.{container_twins}
use Rattle.pod_rows.proofs.well_formed.lack_twins.Goals as goal

pub returns : goal.returns
returns c = IfOk-weaker c.containers_lack_twins.result _ _ (λ r h. h ∙ container_twins c.args.rows.now c.requires.order c.requires.paths) c.containers_lack_twins.ensures
