use Rattle.journal_log.proofs.Once.{stands_or_damaged_lem}
use Rattle.journal_log.proofs.laws.stands_or_damaged.Goals as goal

pub returns : goal.returns
returns c = stands_or_damaged_lem
