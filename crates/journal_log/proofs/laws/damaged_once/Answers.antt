use Rattle.journal_log.proofs.Once.{damaged_once_lem}
use Rattle.journal_log.proofs.laws.damaged_once.Goals as goal

pub returns : goal.returns
returns c = damaged_once_lem
