use Rattle.std.proofs.Common.{ap, sym, ◌∙◌, ℕ, List}
use Rattle.rdf_graph.specs.Size.{saturated}
use Rattle.jsonld_expanded.specs.Widths.{quoted_width}
use Rattle.jsonld_expanded.proofs.Walking.{key_as_iri, key_as_type}
use Rattle.jsonld_expanded.proofs.written_len.key_len.Goals as goal

pub returns-then-is_type : goal.returns-then-is_type
returns-then-is_type c = c.text_len.ensures ∙ ap (λ (k : List ℕ). saturated (quoted_width k)) (sym (key_as_type c.args.triple.now (sym c.is_type.ensures ∙ c.if-is_type.true)))

pub returns : goal.returns
returns c = c.predicate_len.ensures.width ∙ ap (λ (k : List ℕ). saturated (quoted_width k)) (sym (key_as_iri c.args.triple.now (sym c.is_type.ensures ∙ c.if-is_type.false)))
