use Rattle.std.proofs.lemmas.List.{take_rest}
use Rattle.http_conn.proofs.slices.suffix.Goals as goal

pub returns : goal.returns
returns c = take_rest c.args.bytes.now c.args.at
