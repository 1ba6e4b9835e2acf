use Rattle.std.proofs.Common.{rules, ap, sym, ◌∙◌, ℕ, List}
use Rattle.std.specs.Str.{bytes_eq}
use Rattle.jsonld_expanded.specs.Vocabulary.{xsd_string}
use Rattle.jsonld_expanded.proofs.Widths.{plain_literal, typed_literal}
use Rattle.jsonld_expanded.proofs.written_len.literal_len.Goals as goal

pub returns-then-is_string-clause-width : goal.returns-then-is_string-clause-width
returns-then-is_string-clause-width c =
    let test = ap (λ (d : List ℕ). bytes_eq d xsd_string) (sym c.as_str.ensures.text) ∙ sym c.is_string.ensures ∙ c.if-is_string.true in
    rw (plain_literal c.args.lexical.now c.args.datatype.now test) (search rules)

pub returns-clause-width : goal.returns-clause-width
returns-clause-width c =
    let test = ap (λ (d : List ℕ). bytes_eq d xsd_string) (sym c.as_str.ensures.text) ∙ sym c.is_string.ensures ∙ c.if-is_string.false in
    rw (typed_literal c.args.lexical.now c.args.datatype.now test) (search rules)
