use Rattle.reply_laws.proofs.LawsOfKinds.{reads_have_none, changes_have_entries}
use Rattle.reply_laws.proofs.laws.complete.Goals as goal

pub returns : goal.returns
returns c = record { reads = reads_have_none; changes = changes_have_entries }
