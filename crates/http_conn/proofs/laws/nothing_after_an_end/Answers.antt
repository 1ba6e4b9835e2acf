use Rattle.http_conn.proofs.EndLemmas.{ends_there}
use Rattle.http_conn.proofs.laws.nothing_after_an_end.Goals as goal

pub returns : goal.returns
returns c = ends_there
