use Rattle.std.proofs.Common.{ap, ◌∙◌, Some}
use Rattle.pod_rows.specs.Apply.{after_edits, with_rows_if}
use Rattle.pod_rows.specs.Pod.{row_at}
use Rattle.pod_edits.specs.Edits.{put_edits}
use Rattle.pod_edits.proofs.FoundRows.{put_here}
use Rattle.pod_edits.proofs.Built.{entry_applies}
use Rattle.pod_edits.proofs.Removed.{adds, replaces}
use Rattle.pod_edits.proofs.laws.put_law.Goals as goal

pub returns : goal.returns
returns c = record {
  adds = λ pod next entry row w can n e. (let k = adds pod row w can in entry_applies pod next entry (put_edits row) k.rows n e k.leads);
  replaces = λ pod next entry row w can n e. (let k = replaces pod row w can in entry_applies pod next entry (put_edits row) k.rows n e k.leads);
  row = λ pod entry row e. ap (λ list. row_at (with_rows_if pod (after_edits (Some pod.rows) list)).rows row.path) e ∙ put_here pod.rows row;
}
