use Rattle.std.proofs.Common.{rules}
use Rattle.jsonld_expanded.specs.Document.{name_of}
use Rattle.jsonld_expanded.proofs.Widths.{named_width}
use Rattle.jsonld_expanded.proofs.written_len.named_len.Goals as goal

pub returns-clause-width : goal.returns-clause-width
returns-clause-width c = rw (named_width (name_of c.args.term.now)) (search rules)
