use Rattle.journal_log.proofs.Mending.{opened_again_lem}
use Rattle.journal_log.proofs.laws.opened_again.Goals as goal

pub returns : goal.returns
returns c = opened_again_lem
