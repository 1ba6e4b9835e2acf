use Rattle.std.proofs.Common.{rules, ◌≡◌, ◌-◌, ◌++◌, ◌∷◌, length}
use Rattle.std.specs.List.{flat_map}
use Rattle.row_pages.specs.Items.{AreItemsInOrder}
use Rattle.row_pages.proofs.Around.{place_before, place_after}
use Rattle.row_pages.proofs.part_list.around_counted.Goals as goal

pub returns-clause-before : goal.returns-clause-before
returns-clause-before g c =
    let whole : c.args.parts.now ≡ c.split_at.result.0.now ++ (c.in-Some.part.now ∷ c.in-Some.after.now) = search rules in
    let front : length c.split_at.result.0.now ≡ c.place_between-place.result - 1 = search rules in
    let order : AreItemsInOrder (flat_map g.T.Part.items c.args.parts.now) = search rules in
    place_before g.T.Part.items c.args.parts.now c.split_at.result.0.now c.in-Some.after.now c.in-Some.part.now c.place_between-place.result (g.P.Sought.text c.args.path.now) whole front order c.place_between-place.ensures.before

pub returns-clause-after : goal.returns-clause-after
returns-clause-after g c =
    let whole : c.args.parts.now ≡ c.split_at.result.0.now ++ (c.in-Some.part.now ∷ c.in-Some.after.now) = search rules in
    let front : length c.split_at.result.0.now ≡ c.place_between-place.result - 1 = search rules in
    let order : AreItemsInOrder (flat_map g.T.Part.items c.args.parts.now) = search rules in
    place_after g.T.Part.items c.args.parts.now c.split_at.result.0.now c.in-Some.after.now c.in-Some.part.now c.place_between-place.result (g.P.Sought.text c.args.path.now) whole front order c.place_between-place.ensures.after
