use Rattle.pod_rows.proofs.DefinitionLaws.{row_found, row_normal}
use Rattle.pod_rows.proofs.Governed.{always_governed}
use Rattle.pod_rows.proofs.laws.rows_law.Goals as goal

pub returns : goal.returns
returns c = record {
  rows = λ pod row w. row_found pod.rows row w.order;
  paths = row_normal;
  governed = λ pod path w h. always_governed pod path w h;
}
