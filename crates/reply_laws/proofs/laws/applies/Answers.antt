use Rattle.reply_laws.proofs.LawsOfKinds.{entries_apply, applies_bare}
use Rattle.reply_laws.proofs.laws.applies.Goals as goal

pub returns : goal.returns
returns c = record { applies = entries_apply; bare = applies_bare }
