use Rattle.graph_patch.proofs.Candidates.{chosen}
use Rattle.graph_patch.proofs.triple_lookup.Candidates.is_indexed.Goals as goal

pub returns : goal.returns
returns c = chosen c.args.self.indexed.now c.args.self.in_order.now c.is_empty.result c.is_empty.ensures
