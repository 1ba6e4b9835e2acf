use Rattle.turtle_text.proofs.Spelling.{one_graph}
use Rattle.turtle_text.proofs.laws.one_graph.Goals as goal

pub returns : goal.returns
returns c = one_graph
