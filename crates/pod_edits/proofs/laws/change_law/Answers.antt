use Rattle.std.proofs.Common.{ap, sym, ◌∙◌}
use Rattle.pod_rows.specs.Apply.{applied}
use Rattle.pod_rows.specs.Pod.{row_at}
use Rattle.pod_edits.specs.Edits.{change_edits}
use Rattle.pod_edits.proofs.FoundRows.{found_path}
use Rattle.pod_edits.proofs.Built.{entry_applies, entry_rows}
use Rattle.pod_edits.proofs.Removed.{changes}
use Rattle.pod_edits.proofs.laws.change_law.Goals as goal

pub returns : goal.returns
returns c = record {
  applies = λ pod next entry path change modified row w can n e. (let k = changes pod path change modified row w can in entry_applies pod next entry (change_edits path change modified) k.rows n e k.leads);
  row = λ pod entry path change modified row w can e. (let k = changes pod path change modified row w can in
      ap (row_at (applied pod entry).rows) (sym (found_path pod.rows path row can.found))
      ∙ ap (λ rows. row_at rows row.path) (entry_rows pod entry (change_edits path change modified) k.rows e k.leads) ∙ k.there);
}
