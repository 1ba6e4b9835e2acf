use Rattle.syntax_laws.proofs.JsonldGraphs.{graph_reads}
use Rattle.syntax_laws.proofs.json_ld_laws.spelled_as_json_ld.Goals as goal

pub returns : goal.returns
returns c = λ base bytes graph h. graph_reads graph (c.spelled_graphs.ensures base bytes graph h)
