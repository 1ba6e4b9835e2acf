use Rattle.std.proofs.Common.{rules}
use Rattle.jsonld_expanded.proofs.Widths.{blank_width}
use Rattle.jsonld_expanded.proofs.written_len.blank_len.Goals as goal

pub returns : goal.returns
returns c = rw (blank_width c.args.label.now) (search rules)
