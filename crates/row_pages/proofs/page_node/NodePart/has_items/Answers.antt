use Rattle.std.proofs.Common.{rules}
use Rattle.row_pages.proofs.Joined.{node_has}
use Rattle.row_pages.proofs.page_node.NodePart.has_items.Goals as goal

pub returns : goal.returns
returns g c = node_has g.T.Part.items c.args.self.now (search rules)
