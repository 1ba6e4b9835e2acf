use Rattle.std.proofs.Common.{rules, ◌≡◌, ◌++◌, ◌∷◌, None}
use Rattle.row_pages.proofs.Around.{order_part}
use Rattle.row_pages.proofs.Done.{removed_done}
use Rattle.row_pages.proofs.Joined.{joined_have}
use Rattle.row_pages.proofs.part_list.without_in.Goals as goal

pub without-requires : goal.without-requires
without-requires g c =
    let whole : c.args.parts.now ≡ c.in-Some.around.before.now ++ (c.in-Some.around.part.now ∷ c.in-Some.around.after.now) = search rules in
    order_part g.T.Part.items c.args.parts.now c.in-Some.around.before.now c.in-Some.around.after.now c.in-Some.around.part.now whole c.requires

pub returns-in_ok-all-in-Some-clause-items : goal.returns-in_ok-all-in-Some-clause-items
returns-in_ok-all-in-Some-clause-items g c =
    let whole : c.args.parts.now ≡ c.in-Some.around.before.now ++ (c.in-Some.around.part.now ∷ c.in-Some.around.after.now) = search rules in
    removed_done g.T.Part.items c.args.parts.now c.in_ok-all-in-Some.all.items c.in-Some.around.before.now c.in-Some.around.after.now c.in-Some.around.part.now
    c.in_ok-part-in-Some.part c.args.path.now whole c.in_ok-all-in-Some.ensures.items c.in_ok-part-in-Some.ensures (search rules) (search rules)

pub returns-in_ok-all-in-Some-clause-each : goal.returns-in_ok-all-in-Some-clause-each
returns-in_ok-all-in-Some-clause-each g c h =
    let whole : c.args.parts.now ≡ c.in-Some.around.before.now ++ (c.in-Some.around.part.now ∷ c.in-Some.around.after.now) = search rules in
    joined_have g.T.Part.items c.args.parts.now c.in_ok-all-in-Some.all.items c.in-Some.around.before.now c.in-Some.around.after.now c.in-Some.around.part.now
    c.in_ok-part-in-Some.part None whole c.in_ok-all-in-Some.ensures.items c.in_ok-all-in-Some.ensures.part c.in_ok-all-in-Some.ensures.more h
