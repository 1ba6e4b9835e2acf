use Rattle.graph_patch.proofs.SearchResults.{read_map}
use Rattle.graph_patch.proofs.triple_lookup.indexed_at.Goals as goal

pub returns : goal.returns
returns c = read_map (λ r. r.now) c.args.triples.now c.args.i c.index-triples-i.result c.requires c.index-triples-i.is
