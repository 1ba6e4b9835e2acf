use Rattle.std.proofs.Common.{◌≡◌, ◌∙◌, ℕ, sym, ap, subst, arith, take, drop, length, ◌-◌, ◌≤◌}
use Rattle.std.specs.Str.{IsUtf8, IsCharBoundary}
use Rattle.turtle_terms.specs.Escapes.{decoded}
use Rattle.turtle_terms.specs.Values.{without_ends, quote_count}
use Rattle.turtle_terms.proofs.Delimiters.{string_cut}
use Rattle.turtle_terms.proofs.token_text.string_content.Goals as goal

pub overflow_sub-text : goal.overflow_sub-text
overflow_sub-text c =
    let count : c.quote_count-count.result ≡ quote_count c.args.text.now = c.quote_count-count.ensures ∙ ap quote_count c.as_bytes.ensures.value in
    subst (λ (n : ℕ). n ≤ length c.args.text.now) (sym count) (string_cut c.args.text.now c.requires).room

pub range-requires-clause-start_le_end : goal.range-requires-clause-start_le_end
range-requires-clause-start_le_end c =
    let count : c.quote_count-count.result ≡ quote_count c.args.text.now = c.quote_count-count.ensures ∙ ap quote_count c.as_bytes.ensures.value in
    subst (λ (n : ℕ). n ≤ length c.args.text.now - n) (sym count) (string_cut c.args.text.now c.requires).order

pub range-requires-clause-start_boundary : goal.range-requires-clause-start_boundary
range-requires-clause-start_boundary c = λ _.
    let count : c.quote_count-count.result ≡ quote_count c.args.text.now = c.quote_count-count.ensures ∙ ap quote_count c.as_bytes.ensures.value in
    subst (λ (n : ℕ). IsCharBoundary c.args.text.now n) (sym count) (string_cut c.args.text.now c.requires).first

pub range-requires-clause-end_boundary : goal.range-requires-clause-end_boundary
range-requires-clause-end_boundary c =
    let count : c.quote_count-count.result ≡ quote_count c.args.text.now = c.quote_count-count.ensures ∙ ap quote_count c.as_bytes.ensures.value in
    subst (λ (n : ℕ). IsCharBoundary c.args.text.now (length c.args.text.now - n)) (sym count) (string_cut c.args.text.now c.requires).last

pub returns-clause-decodes : goal.returns-clause-decodes
returns-clause-decodes c =
    let text = c.args.text.now in
    let count : c.quote_count-count.result ≡ quote_count text = c.quote_count-count.ensures ∙ ap quote_count c.as_bytes.ensures.value in
    let same : c.range.result.now ≡ without_ends (quote_count text) text = c.range.ensures.value
    ∙ ap (λ (n : ℕ). take (length text - n - n) (drop n text)) count
    ∙ ap (λ (m : ℕ). take m (drop (quote_count text) text)) (omega arith) in
    subst (λ t. IsUtf8 (decoded t)) (sym same) (string_cut text c.requires).content_decodes
