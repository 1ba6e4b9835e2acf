use Rattle.turtle_grammar.specs.declared.symbol.Start.TheVariants.{Patch}
use Rattle.turtle_reader.specs.FirstFaults.{NeverLarge}
use Rattle.turtle_reader.proofs.OneFault.{one_first_fault, places_ascend}
use Rattle.n3_patch.proofs.laws.first_fault.Goals as goal

pub returns-clause-one : goal.returns-clause-one
returns-clause-one c = one_first_fault NeverLarge Patch

pub returns-clause-least : goal.returns-clause-least
returns-clause-least c = places_ascend NeverLarge Patch
