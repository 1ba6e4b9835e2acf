use Rattle.std.proofs.Common.{sym, ◌∙◌}
use Rattle.turtle_lex.proofs.NameLemmas.{names_end}
use Rattle.turtle_lex.proofs.names.ends_names.Goals as goal

pub returns-in-len1-up : goal.returns-in-len1-up
returns-in-len1-up c = λ ends. names_end c.args.text.now c.in-len1-up.len_at_least (sym c.is_name_end.ensures ∙ ends)
