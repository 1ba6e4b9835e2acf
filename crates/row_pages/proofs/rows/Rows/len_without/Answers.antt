use Rattle.std.proofs.Common.{rules, ◌≡◌, ◌-◌, ℕ, Some, None, length, sym, ap, ◌∙◌, subst}
use Rattle.row_pages.specs.Items.{AreItemsInOrder, item_at}
use Rattle.row_pages.proofs.Changed.{removed_old, removed_new}
use Rattle.row_pages.proofs.rows.Rows.len_without.Goals as goal

pub returns-in-Some : goal.returns-in-Some
returns-in-Some c =
    let found : item_at c.args.self.now c.args.path.now ≡ Some c.in-Some.field-0.now = search rules in
    let less : c.saturating_sub.result ≡ c.self.inside.len - 1 = search rules in
    let order : AreItemsInOrder c.args.self.now = subst AreItemsInOrder c.self.view_is c.self.invariant.order in
    less ∙ ap (λ (n : ℕ). n - 1) (c.self.invariant.count ∙ ap length c.self.view_is) ∙ sym ((removed_old c.args.self.now c.args.path.now c.in-Some.field-0.now order found).0)

pub returns-in-None : goal.returns-in-None
returns-in-None c =
    let found : item_at c.args.self.now c.args.path.now ≡ None = search rules in
    let order : AreItemsInOrder c.args.self.now = subst AreItemsInOrder c.self.view_is c.self.invariant.order in
    c.self.invariant.count ∙ ap length c.self.view_is ∙ sym (removed_new c.args.self.now c.args.path.now order found)
