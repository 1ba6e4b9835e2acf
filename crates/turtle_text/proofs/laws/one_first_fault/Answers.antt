use Rattle.turtle_grammar.specs.declared.symbol.Start.TheVariants as start_of
use Rattle.turtle_reader.proofs.OneFault.{one_first_fault}
use Rattle.turtle_text.specs.Faults.{IsLarge}
use Rattle.turtle_text.proofs.laws.one_first_fault.Goals as goal

pub returns : goal.returns
returns c = λ base bytes. one_first_fault (IsLarge base bytes) start_of.Document base bytes
