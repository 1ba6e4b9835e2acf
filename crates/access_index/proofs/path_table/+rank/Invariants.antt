use Rattle.std.proofs.Common.{length}
use Rattle.access_index.proofs.path_table.+rank.Given as goal

abbrev pub decreases-rank : goal.decreases-rank
decreases-rank l = length l.entries.now
