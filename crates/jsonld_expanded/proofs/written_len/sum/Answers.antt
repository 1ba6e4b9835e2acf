use Rattle.std.proofs.Common.{◌∙◌}
use Rattle.rdf_graph.specs.Size.{saturated}
use Rattle.rdf_graph.proofs.Sizes.{saturated_sum}
use Rattle.jsonld_expanded.proofs.written_len.sum.Goals as goal

pub returns : goal.returns
unfolding saturated
returns c m n d e = c.saturating_add.ensures ∙ saturated_sum m n c.args.first c.args.second d e
