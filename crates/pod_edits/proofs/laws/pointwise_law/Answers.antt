use Rattle.std.proofs.Common.{ap, sym, ◌∙◌}
use Rattle.pod_rows.specs.Apply.{with_rows_if}
use Rattle.pod_rows.specs.Pod.{row_at}
use Rattle.pod_edits.proofs.Pointwise.{same_after}
use Rattle.pod_edits.proofs.laws.pointwise_law.Goals as goal

pub returns : goal.returns
returns c = λ pod other next entry path a b e.
    ap (λ rows. row_at (with_rows_if pod rows).rows path) a.edits ∙ same_after entry.edits.items pod.rows other.rows a.rows b.rows path a.edits b.edits e
    ∙ sym (ap (λ rows. row_at (with_rows_if other rows).rows path) b.edits)
