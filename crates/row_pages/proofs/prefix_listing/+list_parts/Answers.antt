use Rattle.std.proofs.Common.{rules, ◌≡◌, ◌+◌, ◌++◌, ◌∷◌, ◌∙◌, ℕ, List, suc, length, ap, sym, subst}
use Rattle.std.specs.List.{flat_map}
use Rattle.std.proofs.lemmas.List.{length-append}
use Rattle.row_pages.specs.Borders.{AreBefore, AreAfter}
use Rattle.row_pages.proofs.Around.{order_part, order_after_part}
use Rattle.row_pages.proofs.Directly.{listed_parts, listed_past}
use Rattle.row_pages.proofs.prefix_listing.+list_parts.Goals as goal

pub list-requires-clause-order : goal.list-requires-clause-order
list-requires-clause-order g t c =
    let whole : c.args.parts.now ≡ c.in-Some.around.before.now ++ (c.in-Some.around.part.now ∷ c.in-Some.around.after.now) = search rules in
    order_part g.T.Part.items c.args.parts.now c.in-Some.around.before.now c.in-Some.around.after.now c.in-Some.around.part.now whole c.requires.order

pub returns-then-not-more : goal.returns-then-not-more
returns-then-not-more g t c =
    let whole : c.args.parts.now ≡ c.in-Some.around.before.now ++ (c.in-Some.around.part.now ∷ c.in-Some.around.after.now) = search rules in
    let before : AreBefore c.args.from.now.items (flat_map g.T.Part.items c.in-Some.around.before.now) = subst (λ (x : List ℕ). AreBefore x (flat_map g.T.Part.items c.in-Some.around.before.now)) c.as_slice.ensures.value c.in-Some.ensures.before in
    let after : AreAfter c.args.from.now.items (flat_map g.T.Part.items c.in-Some.around.after.now) = subst (λ (x : List ℕ). AreAfter x (flat_map g.T.Part.items c.in-Some.around.after.now)) c.as_slice.ensures.value c.in-Some.ensures.after in
    let first = c.in_ok-list.ensures in
    let rest =
    listed_past c.args.prefix.now c.args.from.now.items c.list.new.from.items (flat_map g.T.Part.items c.in-Some.around.after.now) c.list.new.into.items c.requires.begins first.begins after
    (sym c.starts_below-more.ensures ∙ c.if-not-more.true) in
    listed_parts g.T.Part.items c.args.parts.now c.in-Some.around.before.now c.in-Some.around.after.now c.in-Some.around.part.now c.args.prefix.now c.args.from.now.items c.list.new.from.items c.list.new.from.items c.args.into.now.items c.list.new.into.items c.list.new.into.items
    whole before first rest

pub list_parts-requires : goal.list_parts-requires
list_parts-requires g t c κs within =
    let whole : c.args.parts.now ≡ c.in-Some.around.before.now ++ (c.in-Some.around.part.now ∷ c.in-Some.around.after.now) = search rules in
    let fewer : length c.args.parts.now ≡ length c.in-Some.around.before.now + suc (length c.in-Some.around.after.now) = ap length whole ∙ length-append c.in-Some.around.before.now (c.in-Some.around.part.now ∷ c.in-Some.around.after.now) in (
      search (rules, fewer),
      (
        within,
        (
          order_after_part g.T.Part.items c.args.parts.now c.in-Some.around.before.now c.in-Some.around.after.now c.in-Some.around.part.now whole c.requires.order,
          c.in_ok-list.ensures.begins,
        ),
      ),
    )

pub returns : goal.returns
returns g t c =
    let whole : c.args.parts.now ≡ c.in-Some.around.before.now ++ (c.in-Some.around.part.now ∷ c.in-Some.around.after.now) = search rules in
    let before : AreBefore c.args.from.now.items (flat_map g.T.Part.items c.in-Some.around.before.now) = subst (λ (x : List ℕ). AreBefore x (flat_map g.T.Part.items c.in-Some.around.before.now)) c.as_slice.ensures.value c.in-Some.ensures.before in
    listed_parts g.T.Part.items c.args.parts.now c.in-Some.around.before.now c.in-Some.around.after.now c.in-Some.around.part.now c.args.prefix.now c.args.from.now.items c.list.new.from.items c.list_parts.new.from.items c.args.into.now.items c.list.new.into.items c.list_parts.new.into.items
    whole before c.in_ok-list.ensures c.in_ok-list_parts.ensures
