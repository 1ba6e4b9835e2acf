use Rattle.turtle_grammar.proofs.Steps.{goes_on_now}
use Rattle.turtle_grammar.proofs.NamingSteps.{nothing_at_start}
use Rattle.turtle_grammar.proofs.laws.readings.Goals as goal

pub returns-clause-go_on : goal.returns-clause-go_on
returns-clause-go_on c = goes_on_now

pub returns-clause-shallow : goal.returns-clause-shallow
returns-clause-shallow c start symbols productions machine h = h.shallow

pub returns-clause-at_start : goal.returns-clause-at_start
returns-clause-at_start c = nothing_at_start
