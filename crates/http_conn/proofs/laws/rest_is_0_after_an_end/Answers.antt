use Rattle.http_conn.proofs.EndLemmas.{ended_rest}
use Rattle.http_conn.proofs.laws.rest_is_0_after_an_end.Goals as goal

pub returns : goal.returns
returns c = ended_rest
