use Rattle.journal_pair.proofs.StoreOnce.{store_stands_or_damaged_lem}
use Rattle.journal_pair.proofs.laws.store_stands_or_damaged.Goals as goal

pub returns : goal.returns
returns c = store_stands_or_damaged_lem
