use Rattle.journal_log.proofs.Classifying.{some_class_lem}
use Rattle.journal_log.proofs.laws.some_class.Goals as goal

pub returns : goal.returns
returns c = some_class_lem
