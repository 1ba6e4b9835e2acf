use Rattle.turtle_text.proofs.Spelling.{one_derivation}
use Rattle.turtle_text.proofs.laws.one_derivation.Goals as goal

pub returns : goal.returns
returns c = one_derivation
