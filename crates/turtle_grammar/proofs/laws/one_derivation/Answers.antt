use Rattle.turtle_grammar.proofs.Theorem.{same_productions}
use Rattle.turtle_grammar.proofs.OneProduced.{one_produced}
use Rattle.turtle_grammar.proofs.laws.one_derivation.Goals as goal

pub returns-clause-derived : goal.returns-clause-derived
returns-clause-derived c = same_productions

pub returns-clause-produced : goal.returns-clause-produced
returns-clause-produced c = one_produced
