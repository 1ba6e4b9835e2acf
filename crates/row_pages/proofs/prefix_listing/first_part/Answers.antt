use Rattle.std.proofs.Common.{sym, ◌∙◌}
use Rattle.row_pages.proofs.Seeking.{part_some, part_none}
use Rattle.row_pages.proofs.prefix_listing.first_part.Goals as goal

pub returns-in-Some : goal.returns-in-Some
returns-in-Some c = sym (part_some c.args.text.now c.in-Some.at (sym c.find_slash.ensures ∙ c.in-Some.is))

pub returns-in-None : goal.returns-in-None
returns-in-None c = part_none c.args.text.now (sym c.find_slash.ensures ∙ c.in-None.is)
