use Rattle.turtle_reader.proofs.Sequences.{one_meaning, one_means, no_iri_fault}
use Rattle.turtle_reader.proofs.laws.one_meaning.Goals as goal

pub returns : goal.returns
returns c = record { lexeme = one_meaning; lexemes = one_means; no_fault = no_iri_fault }
