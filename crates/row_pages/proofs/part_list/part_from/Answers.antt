use Rattle.std.proofs.Common.{rules, ◌≡◌, ◌∷◌, false}
use Rattle.row_pages.specs.Items.{is_before}
use Rattle.row_pages.proofs.Directly.{after_first_from}
use Rattle.row_pages.proofs.part_list.part_from.Goals as goal

pub returns-clause-after : goal.returns-clause-after
returns-clause-after g c =
    let whole : c.args.parts.now ≡ c.in-Some.part.now ∷ c.in-Some.after.now = search rules in
    let from : is_before c.first_item.result.now.row.path c.args.text.now ≡ false = search rules in
    after_first_from g.T.Part.items c.args.parts.now c.in-Some.after.now c.in-Some.part.now c.args.text.now c.first_item.result.now whole c.requires c.first_item.ensures from
