use Rattle.std.proofs.Common.{ap, sym, ◌∙◌}
use Rattle.rdf_graph.specs.Size.{saturated}
use Rattle.serde_json.specs.Data.{Data}
use Rattle.jsonld_expanded.specs.Widths.{width}
use Rattle.jsonld_expanded.proofs.Walking.{object_as_value}
use Rattle.jsonld_expanded.proofs.Widths.{type_object}
use Rattle.jsonld_expanded.proofs.written_len.object_len.Goals as goal

pub returns-then-is_type-clause-width : goal.returns-then-is_type-clause-width
returns-then-is_type-clause-width c = c.name_len.ensures.width ∙ ap saturated (sym (type_object c.args.triple.now (sym c.is_type.ensures ∙ c.if-is_type.true)))

pub returns-clause-width : goal.returns-clause-width
returns-clause-width c = c.value_len.ensures.width ∙ ap (λ (d : Data). saturated (width d)) (sym (object_as_value c.args.triple.now (sym c.is_type.ensures ∙ c.if-is_type.false)))
