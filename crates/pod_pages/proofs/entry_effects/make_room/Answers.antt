use Rattle.std.proofs.Common.{◌∙◌, ap, arith}
use Rattle.pod_pages.specs.Effects.{kept_effects}
use Rattle.pod_pages.proofs.History.{kept_later}
use Rattle.pod_pages.proofs.entry_effects.make_room.Goals as goal

pub returns : goal.returns
returns c =
    ap (kept_effects c.args.oldest) (c.reserve.ensures.items ∙ c.drop_old.ensures)
    ∙ kept_later c.args.oldest c.args.oldest (omega arith) c.args.effects.now.items
