use Rattle.journal_pair.proofs.StoreOnce.{store_damaged_once_lem}
use Rattle.journal_pair.proofs.laws.store_damaged_once.Goals as goal

pub returns : goal.returns
returns c = store_damaged_once_lem
