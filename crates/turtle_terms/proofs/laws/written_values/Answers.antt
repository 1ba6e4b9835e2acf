use Rattle.turtle_terms.proofs.Written.{reference_is_read, string_is_read}
use Rattle.turtle_terms.proofs.laws.written_values.Goals as goal

pub returns-clause-reference : goal.returns-clause-reference
returns-clause-reference c = reference_is_read

pub returns-clause-string : goal.returns-clause-string
returns-clause-string c = string_is_read
