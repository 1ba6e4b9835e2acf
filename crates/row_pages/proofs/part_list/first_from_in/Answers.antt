use Rattle.std.proofs.Common.{rules, ◌≡◌, ◌++◌, ◌∷◌, Some, None, sym, ◌∙◌}
use Rattle.row_pages.specs.Items.{first_from}
use Rattle.row_pages.proofs.Around.{order_part}
use Rattle.row_pages.proofs.Seeking.{from_part, from_after}
use Rattle.row_pages.proofs.part_list.first_from_in.Goals as goal

pub first_from-requires : goal.first_from-requires
first_from-requires g c =
    let whole : c.args.parts.now ≡ c.in-Some.around.before.now ++ (c.in-Some.around.part.now ∷ c.in-Some.around.after.now) = search rules in
    order_part g.T.Part.items c.args.parts.now c.in-Some.around.before.now c.in-Some.around.after.now c.in-Some.around.part.now whole c.requires

pub returns-in-Some-first_from : goal.returns-in-Some-first_from
returns-in-Some-first_from g c =
    let whole : c.args.parts.now ≡ c.in-Some.around.before.now ++ (c.in-Some.around.part.now ∷ c.in-Some.around.after.now) = search rules in
    let found : first_from (g.T.Part.items c.in-Some.around.part.now) c.args.text.now ≡ Some c.in-Some-first_from.item.now = search rules in
    sym (from_part g.T.Part.items c.args.parts.now c.in-Some.around.before.now c.in-Some.around.after.now c.in-Some.around.part.now c.args.text.now c.in-Some-first_from.item.now whole (search rules) found)

pub returns-in-None-first_from : goal.returns-in-None-first_from
returns-in-None-first_from g c =
    let whole : c.args.parts.now ≡ c.in-Some.around.before.now ++ (c.in-Some.around.part.now ∷ c.in-Some.around.after.now) = search rules in
    let none : first_from (g.T.Part.items c.in-Some.around.part.now) c.args.text.now ≡ None = search rules in
    c.first_item_in.ensures ∙ sym (from_after g.T.Part.items c.args.parts.now c.in-Some.around.before.now c.in-Some.around.after.now c.in-Some.around.part.now c.args.text.now whole (search rules) (search rules) none)
