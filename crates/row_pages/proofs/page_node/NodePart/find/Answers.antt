use Rattle.std.proofs.Common.{rules, ◌≤◌, length, arith}
use Rattle.row_pages.proofs.page_node.NodePart.find.Goals as goal

pub returns-clause-cost : goal.returns-clause-cost
returns-clause-cost g c =
    let few : length c.parts.result.now ≤ 64 = search rules in
    let cost = c.find_in.ensures.cost 7 (omega (arith, few)) in
    omega (arith, cost)
