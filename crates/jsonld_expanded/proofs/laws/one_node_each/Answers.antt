use Rattle.jsonld_expanded.proofs.Subjects.{one_node_each}
use Rattle.jsonld_expanded.proofs.laws.one_node_each.Goals as goal

pub returns : goal.returns
returns c = one_node_each c.subject_law.ensures
