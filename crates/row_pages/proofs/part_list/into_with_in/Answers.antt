use Rattle.std.proofs.Common.{rules, subst, ◌≡◌, ◌+◌, ◌<◌, ◌++◌, Some, length, take, drop}
use Rattle.std.specs.List.{flat_map}
use Rattle.std.specs.Option.{option_to_list}
use Rattle.row_pages.specs.Borders.{AreBefore, AreAfter}
use Rattle.row_pages.proofs.Around.{order_part}
use Rattle.row_pages.proofs.Done.{put_done}
use Rattle.row_pages.proofs.Taken.{taken_whole, put_again}
use Rattle.row_pages.proofs.part_list.into_with_in.Goals as goal

pub into_with-requires : goal.into_with-requires
into_with-requires g c =
    let parts = c.args.parts.items in
    let place = c.place_of-place.result in
    let within : place < length parts = subst (λ ps. place < length ps) c.as_slice.ensures.value c.place_of-place.ensures.within in
    let whole = taken_whole parts place c.remove-old.result within c.remove-old.ensures.value in
    order_part g.T.Part.items parts (take place parts) (drop (place + 1) parts) c.remove-old.result whole c.requires

pub returns-clause-items : goal.returns-clause-items
returns-clause-items g c =
    let parts = c.args.parts.items in
    let place = c.place_of-place.result in
    let within : place < length parts = subst (λ ps. place < length ps) c.as_slice.ensures.value c.place_of-place.ensures.within in
    let whole = taken_whole parts place c.remove-old.result within c.remove-old.ensures.value in
    let all : c.put_back.new.parts.items ≡ take place parts ++ (option_to_list (Some c.in_ok-grown.grown.part) ++ (option_to_list c.in_ok-grown.grown.more ++ drop (place + 1) parts)) =
    put_again parts c.remove-old.new.self.items c.put_back.new.parts.items place c.in_ok-grown.grown.part c.in_ok-grown.grown.more within c.remove-old.ensures.items c.in_ok-put_back.ensures.items in
    let before : AreBefore c.args.item.row.path (flat_map g.T.Part.items (take place parts)) = search rules in
    let after : AreAfter c.args.item.row.path (flat_map g.T.Part.items (drop (place + 1) parts)) = search rules in
    put_done g.T.Part.items parts c.put_back.new.parts.items (take place parts) (drop (place + 1) parts) c.remove-old.result c.in_ok-grown.grown.part c.in_ok-grown.grown.more c.args.item
    whole all c.in_ok-grown.ensures before after
