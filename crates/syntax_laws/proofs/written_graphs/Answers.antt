use Rattle.syntax_laws.proofs.Limits.{within_limits, written_graphs_are_read}
use Rattle.syntax_laws.proofs.Spelled.{written_graphs_spell}
use Rattle.syntax_laws.proofs.written_graphs.Goals as goal

pub returns-clause-spell : goal.returns-clause-spell
returns-clause-spell c = written_graphs_spell

pub returns-clause-within_limits : goal.returns-clause-within_limits
returns-clause-within_limits c = within_limits

pub returns-clause-read : goal.returns-clause-read
returns-clause-read c = written_graphs_are_read
