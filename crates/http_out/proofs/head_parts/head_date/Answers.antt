use Rattle.std.proofs.Common.{rules}
use Rattle.http_out.proofs.head_parts.head_date.Goals as goal

pub returns : goal.returns
returns c = (c.unwrap-date.result, search rules, c.to_bytes.ensures)
