use Rattle.std.proofs.Common.{rules}
use Rattle.jsonld_expanded.proofs.Widths.{iri_width}
use Rattle.jsonld_expanded.proofs.written_len.iri_len.Goals as goal

pub returns-clause-width : goal.returns-clause-width
returns-clause-width c = rw (iri_width c.args.iri.now c.as_str.ensures.absolute) (search rules)
