use Rattle.access_laws.proofs.Granted.{bases, grounds}
use Rattle.access_laws.proofs.bases_are_grants.Goals as goal

pub returns-clause-grounds : goal.returns-clause-grounds
returns-clause-grounds c = grounds

pub returns-clause-bases : goal.returns-clause-bases
returns-clause-bases c = bases
