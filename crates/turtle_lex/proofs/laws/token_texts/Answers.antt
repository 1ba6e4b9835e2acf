use Rattle.turtle_lex.proofs.TextLemmas.{token_text_is_of_kind, token_text_is_utf8}
use Rattle.turtle_lex.proofs.laws.token_texts.Goals as goal

pub returns-clause-of_kind : goal.returns-clause-of_kind
returns-clause-of_kind c = token_text_is_of_kind

pub returns-clause-utf8 : goal.returns-clause-utf8
returns-clause-utf8 c = token_text_is_utf8
