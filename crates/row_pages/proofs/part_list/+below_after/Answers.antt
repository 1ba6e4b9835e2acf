use Rattle.std.proofs.Common.{rules, ◌≡◌, ◌∷◌, [], false, Some, length, ap}
use Rattle.std.specs.List.{flat_map}
use Rattle.row_pages.specs.Borders.{first_begins, AreAfter}
use Rattle.row_pages.specs.Items.{AreItemsInOrder}
use Rattle.row_pages.proofs.Around.{order_part}
use Rattle.row_pages.proofs.Below.{past_part, order_after_first, after_first_part}
use Rattle.row_pages.proofs.part_list.+below_after.Goals as goal

pub returns-then-not-begins_below : goal.returns-then-not-begins_below
returns-then-not-begins_below g t c =
    let whole : c.args.parts.now ≡ c.in-Some.part.now ∷ c.in-Some.rest.now = search rules in
    let order : AreItemsInOrder (flat_map g.T.Part.items c.args.parts.now) = search rules in
    let after : AreAfter c.args.prefix.now (flat_map g.T.Part.items c.args.parts.now) = search rules in
    let none : first_begins c.args.prefix.now (g.T.Part.items c.in-Some.part.now) ≡ Some false = search rules in
    past_part g.T.Part.items c.args.parts.now c.in-Some.rest.now c.in-Some.part.now c.args.prefix.now whole order after none c.args.into.now.items

pub below-requires : goal.below-requires
below-requires g t c =
    let whole : c.args.parts.now ≡ c.in-Some.part.now ∷ c.in-Some.rest.now = search rules in
    let order : AreItemsInOrder (flat_map g.T.Part.items c.args.parts.now) = search rules in
    order_part g.T.Part.items c.args.parts.now [] c.in-Some.rest.now c.in-Some.part.now whole order

pub below_after-requires : goal.below_after-requires
below_after-requires g t c κs within =
    let whole : c.args.parts.now ≡ c.in-Some.part.now ∷ c.in-Some.rest.now = search rules in
    let order : AreItemsInOrder (flat_map g.T.Part.items c.args.parts.now) = search rules in
    let after : AreAfter c.args.prefix.now (flat_map g.T.Part.items c.args.parts.now) = search rules in
    let fewer : length c.args.parts.now ≡ length (c.in-Some.part.now ∷ c.in-Some.rest.now) = ap length whole in (
      search (rules, fewer),
      (
        within,
        (
          order_after_first g.T.Part.items c.args.parts.now c.in-Some.rest.now c.in-Some.part.now whole order,
          after_first_part g.T.Part.items c.args.parts.now c.in-Some.rest.now c.in-Some.part.now c.args.prefix.now whole after,
        ),
      ),
    )
