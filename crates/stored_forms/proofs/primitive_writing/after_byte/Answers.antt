use Rattle.std.proofs.Common.{length, ◌∙◌}
use Rattle.rdf_graph.specs.Size.{saturated}
use Rattle.stored_forms.proofs.Sizes.{saturated_suc}
use Rattle.stored_forms.proofs.primitive_writing.after_byte.Goals as goal

pub returns : goal.returns
unfolding saturated
returns c m d = c.saturating_add.ensures ∙ saturated_suc (length m) c.args.rest d
