use Rattle.std.proofs.Common.{length}
use Rattle.pod_rows.proofs.row_search.+row_joined.Given as goal

abbrev pub decreases-row_joined : goal.decreases-row_joined
decreases-row_joined l = length l.rows.now
