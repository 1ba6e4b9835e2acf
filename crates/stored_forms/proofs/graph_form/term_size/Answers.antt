use Rattle.std.proofs.Common.{sym, ap, ◌∙◌}
use Rattle.rdf_graph.specs.Size.{saturated}
use Rattle.stored_forms.proofs.Sizes.{term_length}
use Rattle.stored_forms.proofs.graph_form.term_size.Goals as goal

pub returns : goal.returns
returns c = c.encoded_size.ensures ∙ ap saturated (sym (term_length c.args.term.now))
