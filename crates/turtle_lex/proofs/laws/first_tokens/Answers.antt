use Rattle.turtle_lex.proofs.ListingLemmas.{first_tokens}
use Rattle.turtle_lex.proofs.laws.first_tokens.Goals as goal

pub returns : goal.returns
returns c = first_tokens
