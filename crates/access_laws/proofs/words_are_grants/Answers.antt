use Rattle.access_laws.proofs.Words.{list_words, words}
use Rattle.access_laws.proofs.words_are_grants.Goals as goal

pub returns-clause-words : goal.returns-clause-words
returns-clause-words c = words

pub returns-clause-lists : goal.returns-clause-lists
returns-clause-lists c = list_words
