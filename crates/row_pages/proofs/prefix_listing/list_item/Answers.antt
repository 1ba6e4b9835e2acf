use Rattle.std.proofs.Common.{rules, ◌≡◌, true, false}
use Rattle.row_pages.specs.Items.{begins_with, is_before}
use Rattle.row_pages.specs.Seeks.{IsRaised}
use Rattle.row_pages.proofs.Directly.{listed_before, listed_other, listed_one}
use Rattle.row_pages.proofs.prefix_listing.list_item.Goals as goal

pub returns-then-text_is_before : goal.returns-then-text_is_before
returns-then-text_is_before c =
    let before : is_before c.args.item.now.row.path c.args.from.now.items ≡ true = search rules in
    listed_before c.args.prefix.now c.args.from.now.items c.args.into.now.items c.args.item.now c.requires before

pub returns-then-not-begins_with : goal.returns-then-not-begins_with
returns-then-not-begins_with c =
    let other : begins_with c.args.prefix.now c.args.item.now ≡ false = search rules in
    listed_other c.args.prefix.now c.args.from.now.items c.args.into.now.items c.args.item.now c.requires other

pub returns : goal.returns
returns c =
    let from : is_before c.args.item.now.row.path c.args.from.now.items ≡ false = search rules in
    let raised : IsRaised c.args.prefix.now c.args.item.now.row.path c.args.from.now.items c.raise.new.from.items = search rules in
    listed_one c.args.prefix.now c.args.from.now.items c.raise.new.from.items c.args.into.now.items c.push_direct.new.into.items c.args.item.now c.requires from c.in_ok-push_direct.ensures raised
