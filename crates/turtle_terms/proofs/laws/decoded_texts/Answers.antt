use Rattle.turtle_terms.proofs.Decoding.{plain_is_itself, numbers_are_decoded}
use Rattle.turtle_terms.proofs.laws.decoded_texts.Goals as goal

pub returns-clause-plain : goal.returns-clause-plain
returns-clause-plain c = plain_is_itself

pub returns-clause-numbers : goal.returns-clause-numbers
returns-clause-numbers c = numbers_are_decoded
