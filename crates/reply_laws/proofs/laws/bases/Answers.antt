use Rattle.reply_laws.proofs.LawsOfKinds.{entries_have_bases}
use Rattle.reply_laws.proofs.laws.bases.Goals as goal

pub returns : goal.returns
returns c = entries_have_bases
