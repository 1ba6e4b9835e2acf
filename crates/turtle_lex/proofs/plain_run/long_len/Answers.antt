use Rattle.std.proofs.Common.{◌≡◌, ℕ, true, take, subst}
use Rattle.std.specs.List.{list_all}
use Rattle.turtle_lex.specs.Delimited.{is_neither}
use Rattle.turtle_lex.proofs.PlainLemmas.{all_long}
use Rattle.turtle_lex.proofs.plain_run.long_len.Goals as goal

pub returns-clause-plain : goal.returns-clause-plain
returns-clause-plain c =
    all_long c.args.quote (take c.len_before.result c.args.text.now)
    (subst (λ (b : ℕ). list_all (is_neither b 92) (take c.len_before.result c.args.text.now) ≡ true) c.byte.ensures c.len_before.ensures.neither)
