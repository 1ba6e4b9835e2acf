use Rattle.turtle_lex.proofs.TextLemmas.{name_has_colon, first_colon_splits_name, first_colon_ends_prefix}
use Rattle.turtle_lex.proofs.laws.names.Goals as goal

pub returns-clause-colon : goal.returns-clause-colon
returns-clause-colon c = name_has_colon

pub returns-clause-local : goal.returns-clause-local
returns-clause-local c = first_colon_splits_name

pub returns-clause-prefix : goal.returns-clause-prefix
returns-clause-prefix c = first_colon_ends_prefix
