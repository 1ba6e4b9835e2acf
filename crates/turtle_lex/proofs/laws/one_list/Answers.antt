use Rattle.turtle_lex.proofs.ListingLemmas.{one_list}
use Rattle.turtle_lex.proofs.laws.one_list.Goals as goal

pub returns : goal.returns
returns c = one_list
