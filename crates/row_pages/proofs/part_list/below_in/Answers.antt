use Rattle.std.proofs.Common.{rules, ◌≡◌, ◌++◌, ◌∷◌}
use Rattle.row_pages.proofs.Around.{order_part, order_after_part}
use Rattle.row_pages.proofs.Done.{below_done}
use Rattle.row_pages.proofs.part_list.below_in.Goals as goal

pub below-requires : goal.below-requires
below-requires g c =
    let whole : c.args.parts.now ≡ c.in-Some.around.before.now ++ (c.in-Some.around.part.now ∷ c.in-Some.around.after.now) = search rules in
    order_part g.T.Part.items c.args.parts.now c.in-Some.around.before.now c.in-Some.around.after.now c.in-Some.around.part.now whole c.requires

pub below_after-requires-clause-order : goal.below_after-requires-clause-order
below_after-requires-clause-order g c =
    let whole : c.args.parts.now ≡ c.in-Some.around.before.now ++ (c.in-Some.around.part.now ∷ c.in-Some.around.after.now) = search rules in
    order_after_part g.T.Part.items c.args.parts.now c.in-Some.around.before.now c.in-Some.around.after.now c.in-Some.around.part.now whole c.requires

pub returns : goal.returns
returns g c =
    let whole : c.args.parts.now ≡ c.in-Some.around.before.now ++ (c.in-Some.around.part.now ∷ c.in-Some.around.after.now) = search rules in
    below_done g.T.Part.items c.args.parts.now c.in-Some.around.before.now c.in-Some.around.after.now c.in-Some.around.part.now c.args.prefix.now c.args.into.now.items c.below.new.into.items c.below_after.new.into.items
    whole (search rules) c.in_ok-below.ensures c.in_ok-below_after.ensures
