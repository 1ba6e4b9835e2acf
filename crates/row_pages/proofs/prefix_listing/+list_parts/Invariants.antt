use Rattle.std.proofs.Common.{length}
use Rattle.row_pages.proofs.prefix_listing.+list_parts.Given as goal

abbrev pub decreases-list_parts : goal.decreases-list_parts
decreases-list_parts g l = length l.parts.now
