use Rattle.journal_log.proofs.Records.{stands_closed}
use Rattle.journal_log.proofs.journal.Journal.clean_stands.Goals as goal

pub returns : goal.returns
returns g c = λ bodies clean c' now. stands_closed c.args.self.now bodies clean.prefix clean.is_prefix c' (clean.closed c' now)
