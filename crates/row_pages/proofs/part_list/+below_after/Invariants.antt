use Rattle.std.proofs.Common.{length}
use Rattle.row_pages.proofs.part_list.+below_after.Given as goal

abbrev pub decreases-below_after : goal.decreases-below_after
decreases-below_after g l = length l.parts.now
