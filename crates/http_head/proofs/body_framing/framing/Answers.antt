use Rattle.std.proofs.Common.{rules}
use Rattle.http_head.proofs.BodyFramingLemmas.{chunked_row}
use Rattle.http_head.proofs.body_framing.framing.Goals as goal

pub returns-then-is_chunked : goal.returns-then-is_chunked
returns-then-is_chunked c = chunked_row c.args.head.now.minor c.args.head.now.fields (search rules) (search rules) (search rules)
