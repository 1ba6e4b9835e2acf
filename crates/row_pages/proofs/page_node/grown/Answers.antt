use Rattle.std.proofs.Common.{rules, subst, ◌<◌, ◌≤◌, length, arith}
use Rattle.row_pages.specs.Nodes.{HaveItems}
use Rattle.row_pages.proofs.Joined.{have_right}
use Rattle.row_pages.proofs.page_node.grown.Goals as goal

pub of-requires-3 : goal.of-requires-3
of-requires-3 g c =
    let many : 64 < length c.args.parts.items = search rules in
    let few : length c.args.parts.items ≤ 65 = c.requires.few in
    let rest = c.in_ok-first.ensures.second in
    record {
      some = omega (arith, many, rest);
      few = omega (arith, few, rest);
      each = have_right g.T.Part.items c.in_ok-first.first.items c.in_ok-first.second.items (subst (HaveItems g.T.Part.items) c.in_ok-first.ensures.whole c.requires.each);
    }
