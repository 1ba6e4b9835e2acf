use Rattle.std.proofs.Common.{rules}
use Rattle.std.specs.Str.{str_eq_ignore_ascii_case}
use Rattle.std.proofs.lemmas.Iterator.Search.{any_from_yields_List}
use Rattle.std.proofs.lemmas.Iterator.Splits.{YieldsList-from_slice_split}
use Rattle.httparse.specs.Grammar.{is_ows}
use Rattle.request_fields.proofs.relation_type.token_has_word.Goals as goal
use borrow.Author.Tests.{tests}

-- the texts are the parts between blanks
pub returns : goal.returns
returns c =
    any_from_yields_List (λ relation. str_eq_ignore_ascii_case relation c.args.word.now) _ _ _ c.any.ensures.ran
    (YieldsList-from_slice_split _ is_ows c.args.text.now c.split.ensures.rest c.split.ensures.done c.split.ensures.closure (λ x b q k. search (rules, tests)))
    (λ x b q k. search (rules, tests))
