use Rattle.std.proofs.Common.{sym, ap, ◌∙◌}
use Rattle.rdf_graph.specs.Size.{saturated}
use Rattle.stored_forms.proofs.Sizes.{triple_length}
use Rattle.stored_forms.proofs.graph_form.triple_size.Goals as goal

pub returns : goal.returns
returns c = c.encoded_size.ensures ∙ ap saturated (sym (triple_length c.args.triple.now))
