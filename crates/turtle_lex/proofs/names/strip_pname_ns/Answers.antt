use Rattle.std.proofs.Common.{sym, ◌∙◌}
use Rattle.turtle_lex.proofs.NameLemmas.{known_no_name}
use Rattle.turtle_lex.proofs.names.strip_pname_ns.Goals as goal

pub returns-then-is_ascii_alphabetic : goal.returns-then-is_ascii_alphabetic
returns-then-is_ascii_alphabetic c = known_no_name c.args.text.now c.args.no_prefix_before.now c.requires c.if-no_prefix_before-text.true (sym c.is_ascii_alphabetic.ensures.value ∙ c.if-is_ascii_alphabetic.true)
