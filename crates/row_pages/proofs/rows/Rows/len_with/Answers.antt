use Rattle.std.proofs.Common.{rules, ◌≡◌, ◌+◌, ℕ, Some, None, length, sym, ap, ◌∙◌, subst}
use Rattle.row_pages.specs.Items.{AreItemsInOrder, item_at}
use Rattle.row_pages.proofs.Changed.{put_old, put_new}
use Rattle.row_pages.proofs.rows.Rows.len_with.Goals as goal

pub returns-in-Some : goal.returns-in-Some
returns-in-Some c =
    let found : item_at c.args.self.now c.args.item.now.row.path ≡ Some c.in-Some.field-0.now = search rules in
    let order : AreItemsInOrder c.args.self.now = subst AreItemsInOrder c.self.view_is c.self.invariant.order in
    c.self.invariant.count ∙ ap length c.self.view_is ∙ sym (put_old c.args.self.now c.args.item.now c.in-Some.field-0.now order found)

pub returns-in_ok-len-in-None : goal.returns-in_ok-len-in-None
returns-in_ok-len-in-None c =
    let found : item_at c.args.self.now c.args.item.now.row.path ≡ None = search rules in
    let order : AreItemsInOrder c.args.self.now = subst AreItemsInOrder c.self.view_is c.self.invariant.order in
    c.in_ok-len-in-None.ensures ∙ ap (λ (n : ℕ). n + 1) (c.self.invariant.count ∙ ap length c.self.view_is) ∙ sym (put_new c.args.self.now c.args.item.now order found)
