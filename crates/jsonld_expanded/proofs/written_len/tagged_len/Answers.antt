use Rattle.std.proofs.Common.{rules}
use Rattle.jsonld_expanded.proofs.Widths.{tagged_width}
use Rattle.jsonld_expanded.proofs.written_len.tagged_len.Goals as goal

pub returns : goal.returns
returns c = rw (tagged_width c.args.lexical.now c.args.lang.now) (search rules)
