use Rattle.journal_log.proofs.Once.{stands_once_lem}
use Rattle.journal_log.proofs.laws.stands_once.Goals as goal

pub returns : goal.returns
returns c = stands_once_lem
