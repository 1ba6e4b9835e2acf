use Rattle.journal_log.proofs.Classifying.{one_class_lem}
use Rattle.journal_log.proofs.laws.one_class.Goals as goal

pub returns : goal.returns
returns c = one_class_lem
