use Rattle.turtle_lex.proofs.WrittenLemmas.{next_is_token}
use Rattle.turtle_lex.proofs.laws.next_is_token.Goals as goal

pub returns : goal.returns
returns c = next_is_token
