use Rattle.std.proofs.Common.{◌≡◌, ◌==◌, true, false, cond, Some, None, sym, ap, ◌∙◌, arith}
use Rattle.std.proofs.lemmas.Bool.Decides.{nat_tests}
use Rattle.field_list.specs.Places.{quote}
use Rattle.conditional_req.specs.EntityTags.{before_quote}
use Rattle.conditional_req.proofs.QuoteLemmas.{before-last}
use Rattle.conditional_req.proofs.tag_parser.before_quote.Goals as goal

-- the last byte is a quote
pub returns-then-last-eq34 : goal.returns-then-last-eq34
returns-then-last-eq34 c =
    let is : (c.in-Some.last.now == quote) ≡ true = grind (arith, nat_tests) in
    sym (ap before_quote c.in-Some.ensures.cases.0 ∙ before-last c.in-Some.rest.now c.in-Some.last.now ∙ ap (λ b. cond b (Some c.in-Some.rest.now) None) is)

-- it is no quote
pub returns-else-last-eq34 : goal.returns-else-last-eq34
returns-else-last-eq34 c =
    let is : (c.in-Some.last.now == quote) ≡ false = grind (arith, nat_tests) in
    sym (ap before_quote c.in-Some.ensures.cases.0 ∙ before-last c.in-Some.rest.now c.in-Some.last.now ∙ ap (λ b. cond b (Some c.in-Some.rest.now) None) is)
