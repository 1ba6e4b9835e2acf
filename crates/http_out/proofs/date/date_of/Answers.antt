use Rattle.std.proofs.Common.{◌∙◌, rules}
use Rattle.http_out.proofs.CalendarLemmas.{date_is}
use Rattle.http_out.proofs.date.date_of.Goals as goal

pub returns : goal.returns
returns c = c.to_bytes.ensures ∙ date_is c.unwrap-date.result c.args.moment.0 (search rules)
