use Rattle.std.proofs.Common.{List, ℕ, sym, subst}
use Rattle.turtle_lex.specs.Classes.{is_pn_chars}
use Rattle.turtle_lex.specs.Pattern.{one, many, Matches}
use Rattle.turtle_lex.proofs.NameLemmas.{name_bytes_run}
use Rattle.turtle_lex.proofs.names.strip_name_bytes.Goals as goal

pub returns-clause-run : goal.returns-clause-run
returns-clause-run c =
    subst (λ (r : List ℕ). Matches (many (one is_pn_chars)) c.args.text.now r) (sym c.split_at.ensures.back)
    (name_bytes_run c.args.text.now c.name_len.result c.name_len.ensures.name)
