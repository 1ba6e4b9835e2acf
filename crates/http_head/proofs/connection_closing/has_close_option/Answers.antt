use Rattle.std.proofs.Common.{rules, ◌==◌, ◌∷◌, []}
use Rattle.std.specs.Str.{str_eq_ignore_ascii_case}
use Rattle.std.proofs.lemmas.Iterator.Search.{any_from_yields_List}
use Rattle.std.proofs.lemmas.Iterator.Splits.{YieldsList-from_slice_split}
use Rattle.httparse.specs.Grammar.{trim_ows}
use Rattle.http_head.proofs.connection_closing.has_close_option.Goals as goal
use borrow.Author.Tests.{tests}

-- the words are the parts between commas
pub returns : goal.returns
returns c =
    any_from_yields_List (λ word. str_eq_ignore_ascii_case (trim_ows word) (99 ∷ 108 ∷ 111 ∷ 115 ∷ 101 ∷ [])) _ _ _ c.any.ensures.ran
    (YieldsList-from_slice_split _ (λ b. b == 44) c.args.value.now c.split.ensures.rest c.split.ensures.done c.split.ensures.closure (λ x b q k. search (rules, tests)))
    (λ x b q k. search (rules, tests))
