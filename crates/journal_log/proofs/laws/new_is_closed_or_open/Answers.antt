use Rattle.journal_log.proofs.Classifying.{new_lem}
use Rattle.journal_log.proofs.laws.new_is_closed_or_open.Goals as goal

pub returns : goal.returns
returns c = new_lem
