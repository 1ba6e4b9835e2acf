use Rattle.reply_laws.proofs.LawsOfKinds.{replies_are_sent}
use Rattle.reply_laws.proofs.laws.sent.Goals as goal

pub returns : goal.returns
returns c = replies_are_sent
