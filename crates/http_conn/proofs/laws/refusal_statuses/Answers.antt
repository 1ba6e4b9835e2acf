use Rattle.http_conn.proofs.RefusalLemmas.{have_refusal_statuses}
use Rattle.http_conn.proofs.laws.refusal_statuses.Goals as goal

pub returns : goal.returns
returns c = have_refusal_statuses
