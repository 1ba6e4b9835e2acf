use Rattle.turtle_grammar.proofs.Theorem.{goes_on_front, begins_so}
use Rattle.turtle_grammar.proofs.laws.prefixes.Goals as goal

pub returns-clause-go_on : goal.returns-clause-go_on
returns-clause-go_on c = goes_on_front

pub returns-clause-of_derived : goal.returns-clause-of_derived
returns-clause-of_derived c = begins_so
