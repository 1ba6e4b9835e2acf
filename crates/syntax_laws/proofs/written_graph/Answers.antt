use Rattle.syntax_laws.proofs.Limits.{within_limits}
use Rattle.syntax_laws.proofs.Spelled.{written_graphs_spell}
use Rattle.syntax_laws.proofs.written_graph.Goals as goal

pub returns-clause-spells : goal.returns-clause-spells
returns-clause-spells c = λ base h.
    written_graphs_spell base c.args.graph.now c.graph_texts.ensures.graph c.graph_texts.ensures.texts h

pub returns-clause-within_limits : goal.returns-clause-within_limits
returns-clause-within_limits c = λ base h small.
    within_limits base c.args.graph.now c.graph_texts.ensures.graph c.graph_texts.ensures.texts h small
