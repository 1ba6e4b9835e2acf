use Rattle.http_conn.proofs.Parses.{messages_one}
use Rattle.http_conn.proofs.laws.one_parse.Goals as goal

pub returns : goal.returns
returns c = messages_one
