use Rattle.std.proofs.Common.{◌≡◌, ℕ, ◌+◌, ◌-◌, List, length, drop, true, ap, sym, ◌∙◌, subst, Some, None}
use Rattle.std.specs.Option.{option_map}
use Rattle.http_head.specs.HeadEnds.{head_length}
use Rattle.http_head.specs.HeadScan.{scan_state, Passed}
use Rattle.http_head.proofs.HeadScanLemmas.{no_end_passed, passed_now, none_added}
use Rattle.http_head.proofs.head_search.skip_header_lines.Goals as goal

-- the head ends where that of the rest does
pub returns-in-Some-clause-found : goal.returns-in-Some-clause-found
returns-in-Some-clause-found c =
    let at : ℕ = c.args.at in
    let found : Some c.in-Some.length ≡ head_length (drop at c.args.window.now) = c.in-Some.ensures.exact ∙ ap head_length c.suffix_from-rest.ensures in
    ap (option_map (λ n. n + at)) found ∙ sym (passed_now (scan_state at true) c.args.window.now c.requires)

-- the last two bytes are left
pub returns-in-None-clause-passed : goal.returns-in-None-clause-passed
returns-in-None-clause-passed c =
    let at : ℕ = c.args.at in
    let none : head_length (drop at c.args.window.now) ≡ None = sym (c.in-None.ensures.exact ∙ ap head_length c.suffix_from-rest.ensures) in
    let count : length (drop at c.args.window.now) - 2 ≡ c.saturating_sub.result = sym (c.saturating_sub.ensures ∙ ap (λ r. length r - 2) c.suffix_from-rest.ensures) in
    subst (λ m. Passed (scan_state (at + m) true) c.args.window.now) count (no_end_passed at c.args.window.now c.requires none)

pub returns-in-None-clause-found : goal.returns-in-None-clause-found
returns-in-None-clause-found c =
    let at : ℕ = c.args.at in
    let rest : List ℕ = drop at c.args.window.now in
    let none : head_length rest ≡ None = sym (c.in-None.ensures.exact ∙ ap head_length c.suffix_from-rest.ensures) in
    sym (passed_now (scan_state at true) c.args.window.now c.requires ∙ none_added at (head_length rest) none)
