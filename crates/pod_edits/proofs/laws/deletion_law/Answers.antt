use Rattle.std.proofs.Common.{ap, ◌∙◌}
use Rattle.pod_path.specs.Hierarchy.{acl_of, meta_of}
use Rattle.pod_rows.specs.Pod.{is_row, is_row_of}
use Rattle.pod_edits.specs.Edits.{deletion_edits, removal_edits}
use Rattle.pod_edits.proofs.Built.{entry_applies, entry_rows}
use Rattle.pod_edits.proofs.Removed.{deletes, takes_away, path_goes, acl_goes, meta_goes}
use Rattle.pod_edits.proofs.laws.deletion_law.Goals as goal

pub returns : goal.returns
returns c = record {
  applies = λ pod next entry path modified w can n e. (let k = deletes pod path modified w can in entry_applies pod next entry (deletion_edits pod.rows path modified) k.rows n e k.leads);
  row = λ pod entry path modified w can e. (let k = deletes pod path modified w can in ap (λ rows. is_row rows path) (entry_rows pod entry (deletion_edits pod.rows path modified) k.rows e k.leads) ∙ k.gone path (path_goes path));
  list = λ pod entry path modified w can e. (let k = deletes pod path modified w can in
      ap (λ rows. is_row_of rows (acl_of path)) (entry_rows pod entry (deletion_edits pod.rows path modified) k.rows e k.leads) ∙ acl_goes pod path modified k can.plain);
  description = λ pod entry path modified w can e. (let k = deletes pod path modified w can in
      ap (λ rows. is_row_of rows (meta_of path)) (entry_rows pod entry (deletion_edits pod.rows path modified) k.rows e k.leads) ∙ meta_goes pod path modified k can.plain);
  auxiliary = λ pod next entry path w can n e. (let k = takes_away pod path w can in entry_applies pod next entry (removal_edits path) k.rows n e k.leads);
  auxiliary_row = λ pod entry path w can e. (let k = takes_away pod path w can in ap (λ rows. is_row rows path) (entry_rows pod entry (removal_edits path) k.rows e k.leads) ∙ k.gone);
}
