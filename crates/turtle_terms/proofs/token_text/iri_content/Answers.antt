use Rattle.std.proofs.Common.{◌≡◌, ◌∙◌, ℕ, sym, ap, subst, arith, take, drop}
use Rattle.std.specs.Str.{IsUtf8}
use Rattle.turtle_terms.specs.Escapes.{decoded}
use Rattle.turtle_terms.specs.Values.{without_ends}
use Rattle.turtle_terms.proofs.Delimiters.{iri_cut}
use Rattle.turtle_terms.proofs.token_text.iri_content.Goals as goal

pub overflow_sub-text : goal.overflow_sub-text
overflow_sub-text c = (iri_cut c.args.text.now c.requires).room

pub range-requires-clause-start_le_end : goal.range-requires-clause-start_le_end
range-requires-clause-start_le_end c = (iri_cut c.args.text.now c.requires).order

pub range-requires-clause-start_boundary : goal.range-requires-clause-start_boundary
range-requires-clause-start_boundary c = λ _. (iri_cut c.args.text.now c.requires).first

pub range-requires-clause-end_boundary : goal.range-requires-clause-end_boundary
range-requires-clause-end_boundary c = (iri_cut c.args.text.now c.requires).last

pub returns-clause-decodes : goal.returns-clause-decodes
returns-clause-decodes c =
    let text = c.args.text.now in
    let same : c.range.result.now ≡ without_ends 1 text = c.range.ensures.value ∙ ap (λ (m : ℕ). take m (drop 1 text)) (omega arith) in
    subst (λ t. IsUtf8 (decoded t)) (sym same) (iri_cut text c.requires).content_decodes
