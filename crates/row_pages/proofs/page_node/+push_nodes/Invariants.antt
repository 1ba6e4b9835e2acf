use Rattle.std.proofs.Common.{length}
use Rattle.row_pages.proofs.page_node.+push_nodes.Given as goal

abbrev pub decreases-push_nodes : goal.decreases-push_nodes
decreases-push_nodes g l = length l.parts.now
