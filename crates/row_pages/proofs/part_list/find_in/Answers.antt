use Rattle.std.proofs.Common.{rules, ◌≡◌, ◌++◌, ◌∷◌, ◌∙◌, sym}
use Rattle.std.specs.List.{flat_map}
use Rattle.row_pages.specs.Items.{AreItemsInOrder}
use Rattle.row_pages.proofs.Around.{order_part, found_around}
use Rattle.row_pages.proofs.part_list.find_in.Goals as goal

pub find-requires : goal.find-requires
find-requires g c =
    let whole : c.args.parts.now ≡ c.in-Some.around.before.now ++ (c.in-Some.around.part.now ∷ c.in-Some.around.after.now) = search rules in
    let order : AreItemsInOrder (flat_map g.T.Part.items c.args.parts.now) = search rules in
    order_part g.T.Part.items c.args.parts.now c.in-Some.around.before.now c.in-Some.around.after.now c.in-Some.around.part.now whole order

pub returns-in-Some-clause-found : goal.returns-in-Some-clause-found
returns-in-Some-clause-found g c =
    let whole : c.args.parts.now ≡ c.in-Some.around.before.now ++ (c.in-Some.around.part.now ∷ c.in-Some.around.after.now) = search rules in
    c.find.ensures.found ∙ sym (found_around g.T.Part.items c.args.parts.now c.in-Some.around.before.now c.in-Some.around.after.now c.in-Some.around.part.now (g.P.Sought.text c.args.path.now) whole (search rules) (search rules))
