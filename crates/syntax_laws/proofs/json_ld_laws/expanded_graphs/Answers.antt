use Rattle.syntax_laws.proofs.JsonldGraphs.{expanded_are_read_back, expanded_read_back}
use Rattle.syntax_laws.proofs.json_ld_laws.expanded_graphs.Goals as goal

pub returns-clause-turtle : goal.returns-clause-turtle
returns-clause-turtle c = expanded_are_read_back

pub returns-clause-json_ld : goal.returns-clause-json_ld
returns-clause-json_ld c = expanded_read_back
