use Rattle.std.proofs.Common.{◌≡◌, ℕ, ◌≤◌, List, length, drop, ap, sym, ◌∙◌, subst}
use Rattle.http_head.specs.HeadEnds.{blank_length}
use Rattle.http_head.specs.HeadScan.{begins_line}
use Rattle.http_head.proofs.HeadScanLemmas.{blank_passed, blank_alone}
use Rattle.http_head.proofs.head_search.skip_blank_lines.Goals as goal

-- the empty lines of the rest are passed
pub returns-clause-passed : goal.returns-clause-passed
returns-clause-passed c =
    let n : ℕ = c.blank_length-blank.result in
    let rest : List ℕ = drop c.args.at c.args.window.now in
    let is : n ≡ blank_length rest = c.blank_length-blank.ensures.exact ∙ ap blank_length c.suffix_from-rest.ensures in
    let room : n ≤ length rest = subst (λ r. n ≤ length r) c.suffix_from-rest.ensures c.blank_length-blank.ensures.len in
    let begins : begins_line (drop n rest) ≡ c.begins_line-begun.result = sym (c.begins_line-begun.ensures ∙ ap begins_line (c.suffix_from.ensures ∙ ap (drop n) c.suffix_from-rest.ensures)) in
    blank_passed c.args.at n c.args.window.now c.begins_line-begun.result c.requires is room begins

-- without a line there is no head
pub returns-clause-none : goal.returns-clause-none
returns-clause-none c = λ none.
    let n : ℕ = c.blank_length-blank.result in
    let rest : List ℕ = drop c.args.at c.args.window.now in
    let is : n ≡ blank_length rest = c.blank_length-blank.ensures.exact ∙ ap blank_length c.suffix_from-rest.ensures in
    let begins : begins_line (drop n rest) ≡ c.begins_line-begun.result = sym (c.begins_line-begun.ensures ∙ ap begins_line (c.suffix_from.ensures ∙ ap (drop n) c.suffix_from-rest.ensures)) in
    blank_alone c.args.at n c.args.window.now c.requires is (begins ∙ none)
