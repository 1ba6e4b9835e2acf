use Rattle.std.proofs.Common.{rules, ◌≡◌, ◌∙◌, length, subst, sym}
use Rattle.row_pages.specs.Items.{AreItemsInOrder}
use Rattle.pod_pages.proofs.VersionLaws.{unmarked_all, unmarked_order}
use Rattle.pod_pages.proofs.version.first_rows.Goals as goal

pub of-requires : goal.of-requires
of-requires c =
    let none : length c.loop-row.row-iterator.rest.items ≡ 0 = search rules in
    let all = unmarked_all c.loop-row.items.items c.loop-row.row-iterator.rest.items c.args.rows.items none c.loop-row.invariant in
    subst AreItemsInOrder (sym (c.as_slice.ensures.value ∙ all)) (unmarked_order c.args.rows.items c.requires)
