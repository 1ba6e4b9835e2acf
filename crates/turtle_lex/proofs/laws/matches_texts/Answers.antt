use Rattle.turtle_lex.proofs.LawLemmas.{matches_its_texts, matches_all_its_texts}
use Rattle.turtle_lex.proofs.laws.matches_texts.Goals as goal

pub returns-clause-only : goal.returns-clause-only
returns-clause-only c = matches_its_texts

pub returns-clause-all : goal.returns-clause-all
returns-clause-all c = matches_all_its_texts
