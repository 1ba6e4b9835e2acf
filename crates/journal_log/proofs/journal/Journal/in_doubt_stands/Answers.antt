use Rattle.journal_log.proofs.Records.{stands_opening}
use Rattle.journal_log.proofs.journal.Journal.in_doubt_stands.Goals as goal

pub returns : goal.returns
returns g c = λ bodies body doubts c' now. stands_opening c.args.self.now bodies doubts.prefix doubts.is_prefix body c' doubts.short (doubts.opening c' now)
