use Rattle.http_conn.proofs.SomeParse.{some_parse}
use Rattle.http_conn.proofs.laws.some_parse.Goals as goal

pub returns : goal.returns
returns c = some_parse
