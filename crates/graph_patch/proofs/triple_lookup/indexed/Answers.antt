use Rattle.graph_patch.proofs.Candidates.{index_alone}
use Rattle.graph_patch.proofs.triple_lookup.indexed.Goals as goal

pub returns : goal.returns
returns c = index_alone c.args.triples.now
