use Rattle.turtle_grammar.specs.declared.symbol.Start.TheVariants as start_of
use Rattle.turtle_reader.proofs.OneFault.{places_ascend}
use Rattle.turtle_text.specs.Faults.{IsLarge}
use Rattle.turtle_text.proofs.laws.places.Goals as goal

pub returns : goal.returns
returns c = λ base bytes. places_ascend (IsLarge base bytes) start_of.Document base bytes
