use Rattle.std.proofs.Common.{◌∙◌}
use Rattle.rdf_graph.specs.Size.{saturated}
use Rattle.stored_forms.proofs.Sizes.{saturated_sum}
use Rattle.stored_forms.proofs.primitive_writing.plus.Goals as goal

pub returns : goal.returns
unfolding saturated
returns c m n d e = c.saturating_add.ensures ∙ saturated_sum m n c.args.first c.args.second d e
