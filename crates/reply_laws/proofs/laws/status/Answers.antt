use Rattle.reply_laws.proofs.LawsOfKinds.{never_fails, upgrades_alone}
use Rattle.reply_laws.proofs.laws.status.Goals as goal

pub returns : goal.returns
returns c = record { fails = never_fails; upgrades = upgrades_alone }
