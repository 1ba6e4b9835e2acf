use Rattle.turtle_lex.proofs.TextLemmas.{tokens_are_text, tokens_end_text, bad_token_ends_text}
use Rattle.turtle_lex.proofs.Utf8Lemmas.{not_text_is_first}
use Rattle.turtle_lex.proofs.laws.utf8.Goals as goal

pub returns-clause-tokens : goal.returns-clause-tokens
returns-clause-tokens c = tokens_are_text

pub returns-clause-so_far : goal.returns-clause-so_far
returns-clause-so_far c = tokens_end_text

pub returns-clause-bad_token : goal.returns-clause-bad_token
returns-clause-bad_token c = bad_token_ends_text

pub returns-clause-not_text : goal.returns-clause-not_text
returns-clause-not_text c = not_text_is_first
