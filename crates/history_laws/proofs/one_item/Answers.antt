use Rattle.history_laws.proofs.Makers.{one_maker}
use Rattle.history_laws.proofs.one_item.Goals as goal

pub returns : goal.returns
returns g c = λ asking session other events heard before after start end s t same position at place m k.
    one_maker (g.C.Clock.may_give c.args.clock.now) c.bases.ensures asking session other events heard before after start end s t same position at place m k
