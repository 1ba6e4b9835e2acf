use Rattle.http_conn.proofs.StepLemmas.{requests_stay, bad_stays}
use Rattle.http_conn.proofs.laws.complete_messages_stay.Goals as goal

pub returns-clause-requests : goal.returns-clause-requests
returns-clause-requests c = λ text left more requests h. requests_stay requests text left more h

pub returns-clause-malformed : goal.returns-clause-malformed
returns-clause-malformed c = bad_stays
