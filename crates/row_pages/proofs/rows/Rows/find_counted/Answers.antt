use Rattle.std.proofs.Common.{◌≤◌, List, length, arith, subst, ap}
use Rattle.row_pages.specs.Items.{Placed}
use Rattle.row_pages.specs.Parts.{book_items}
use Rattle.row_pages.proofs.Joined.{fewer_parts}
use Rattle.row_pages.proofs.rows.Rows.find_counted.Goals as goal

pub returns-clause-cost : goal.returns-clause-cost
returns-clause-cost g c b h =
    let few : length c.self.inside.books.items ≤ length c.args.self.now =
    subst (λ (is : List Placed). length c.self.inside.books.items ≤ length is) c.self.view_is (fewer_parts book_items c.self.inside.books.items c.self.invariant.each) in
    let same = ap length c.as_slice.ensures.value in
    let cost = c.find_in.ensures.cost b (omega (arith, few, same, h)) in
    omega (arith, cost)
