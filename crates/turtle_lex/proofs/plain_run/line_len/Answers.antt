use Rattle.std.proofs.Common.{◌≡◌, ◌≤◌, ℕ, List, true, length, take, subst}
use Rattle.std.specs.List.{list_all}
use Rattle.turtle_lex.specs.Delimited.{is_neither}
use Rattle.turtle_lex.proofs.PlainLemmas.{all_line}
use Rattle.turtle_lex.proofs.plain_run.line_len.Goals as goal

pub returns-clause-plain : goal.returns-clause-plain
returns-clause-plain c =
    let m = c.len_before.result in
    all_line c.args.quote c.args.text.now c.long_len.result m
    (subst (λ (s : List ℕ). m ≤ length s) c.split_at.ensures.front c.len_before.ensures.within)
    c.long_len.ensures.plain
    (subst (λ (s : List ℕ). list_all (is_neither 10 13) (take m s) ≡ true) c.split_at.ensures.front c.len_before.ensures.neither)
