use Rattle.std.proofs.Common.{ap, ◌∙◌}
use Rattle.pod_rows.specs.Pod.{row_at}
use Rattle.pod_edits.specs.Edits.{creation_edits}
use Rattle.pod_edits.proofs.Built.{creates, entry_applies, entry_rows}
use Rattle.pod_edits.proofs.laws.creation_law.Goals as goal

pub returns : goal.returns
returns c = record {
  applies = λ pod next entry row w can n e. (let k = creates pod row w can in entry_applies pod next entry (creation_edits pod.rows row) k.rows n e k.leads);
  row = λ pod entry row w can e. (let k = creates pod row w can in ap (λ rows. row_at rows row.path) (entry_rows pod entry (creation_edits pod.rows row) k.rows e k.leads) ∙ k.there);
}
