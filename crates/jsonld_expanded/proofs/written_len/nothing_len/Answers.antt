use Rattle.std.proofs.Common.{rules}
use Rattle.jsonld_expanded.proofs.Widths.{no_text_width}
use Rattle.jsonld_expanded.proofs.written_len.nothing_len.Goals as goal

pub returns : goal.returns
returns c = rw (no_text_width) (search rules)
