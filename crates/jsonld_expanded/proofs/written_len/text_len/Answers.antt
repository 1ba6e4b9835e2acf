use Rattle.std.proofs.Common.{rules}
use Rattle.jsonld_expanded.proofs.Widths.{text_width}
use Rattle.jsonld_expanded.proofs.written_len.text_len.Goals as goal

pub returns : goal.returns
returns c = rw (text_width c.args.text.now) (search rules)
