use Rattle.syntax_laws.proofs.ReadTerms.{spelled_graphs_are_read_back}
use Rattle.syntax_laws.proofs.spelled_graphs.Goals as goal

pub returns : goal.returns
returns c = spelled_graphs_are_read_back
