use Rattle.turtle_grammar.specs.declared.symbol.Start.TheVariants.{Update}
use Rattle.turtle_reader.specs.FirstFaults.{NeverLarge}
use Rattle.turtle_reader.proofs.OneFault.{one_first_fault, places_ascend}
use Rattle.sparql_patch.proofs.laws.first_fault.Goals as goal

pub returns-clause-one : goal.returns-clause-one
returns-clause-one c = one_first_fault NeverLarge Update

pub returns-clause-least : goal.returns-clause-least
returns-clause-least c = places_ascend NeverLarge Update
