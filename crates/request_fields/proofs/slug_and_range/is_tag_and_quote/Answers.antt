use Rattle.std.proofs.Common.{◌≡◌, ◌==◌, ◌&&◌, ◌∷◌, [], ◌++◌, true, false, bytes_eq, sym, ap, ◌∙◌, arith}
use Rattle.std.proofs.lemmas.Bool.Decides.{nat_tests}
use Rattle.field_list.specs.Places.{quote}
use Rattle.request_fields.proofs.TextLemmas.{equal-last}
use Rattle.request_fields.proofs.slug_and_range.is_tag_and_quote.Goals as goal

-- the last byte is a quote
pub returns-then-last-eq34 : goal.returns-then-last-eq34
returns-then-last-eq34 c =
    let is : (c.in-Some.last.now == quote) ≡ true = grind (arith, nat_tests) in
    c.eq.ensures
    ∙ sym (ap (λ text. bytes_eq text (c.args.tag.now ++ quote ∷ [])) c.in-Some.ensures.cases.0
    ∙ equal-last c.in-Some.rest.now c.args.tag.now c.in-Some.last.now quote
    ∙ ap (λ b. b && bytes_eq c.in-Some.rest.now c.args.tag.now) is)

-- it is no quote
pub returns-else-last-eq34 : goal.returns-else-last-eq34
returns-else-last-eq34 c =
    let is : (c.in-Some.last.now == quote) ≡ false = grind (arith, nat_tests) in
    is
    ∙ sym (ap (λ text. bytes_eq text (c.args.tag.now ++ quote ∷ [])) c.in-Some.ensures.cases.0
    ∙ equal-last c.in-Some.rest.now c.args.tag.now c.in-Some.last.now quote
    ∙ ap (λ b. b && bytes_eq c.in-Some.rest.now c.args.tag.now) is)
