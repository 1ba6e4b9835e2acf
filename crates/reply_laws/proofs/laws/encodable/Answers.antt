use Rattle.reply_laws.proofs.LawsOfKinds.{entries_are_encodable, encodable_bare}
use Rattle.reply_laws.proofs.laws.encodable.Goals as goal

pub returns : goal.returns
returns c = record { encodable = entries_are_encodable; bare = encodable_bare }
