use Rattle.sparql_patch.proofs.NamedLemmas.{last_naming_decides, deletions_in_graph}
use Rattle.sparql_patch.proofs.laws.last_naming.Goals as goal

pub returns-clause-decides : goal.returns-clause-decides
returns-clause-decides c = last_naming_decides

pub returns-clause-deletions : goal.returns-clause-deletions
returns-clause-deletions c = deletions_in_graph
