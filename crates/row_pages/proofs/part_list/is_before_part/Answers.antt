use Rattle.row_pages.proofs.Joined.{after_key, by_key}
use Rattle.row_pages.proofs.part_list.is_before_part.Goals as goal

pub returns-clause-after : goal.returns-clause-after
returns-clause-after g c h =
    after_key (g.P.Sought.text c.args.path.now) (g.T.Part.items c.args.part.now) (g.T.Keyed.key c.args.part.now) c.is_before.result c.has_items.ensures (g.met.T.Part.keyed c.args.part.now) c.is_before.ensures.order h

pub returns-clause-by : goal.returns-clause-by
returns-clause-by g c h =
    by_key (g.P.Sought.text c.args.path.now) (g.T.Part.items c.args.part.now) (g.T.Keyed.key c.args.part.now) c.is_before.result c.has_items.ensures (g.met.T.Part.keyed c.args.part.now) c.is_before.ensures.order h
