use Rattle.journal_pair.proofs.StoreOnce.{store_empty_only_lem}
use Rattle.journal_pair.proofs.laws.store_empty_only.Goals as goal

pub returns : goal.returns
returns c = store_empty_only_lem
