use Rattle.std.proofs.lemmas.List.{take_rest}
use Rattle.row_pages.proofs.prefix_listing.suffix.Goals as goal

pub returns : goal.returns
returns c = take_rest c.args.text.now c.args.at
