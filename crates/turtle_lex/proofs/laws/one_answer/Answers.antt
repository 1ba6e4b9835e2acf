use Rattle.turtle_lex.proofs.NextLemmas.{one_answer}
use Rattle.turtle_lex.proofs.laws.one_answer.Goals as goal

pub returns : goal.returns
returns c = one_answer
