use Rattle.std.proofs.Common.{arith}
use Rattle.std.proofs.lemmas.Grind.{common_steps}
use Rattle.pod_rows.specs.AclLists.{list_of}
use Rattle.pod_rows.proofs.Steps.{filter_map_more}
use Rattle.pod_rows.proofs.acl_list.lists_of.Goals as goal

pub loop-row-preserved : goal.loop-row-preserved
loop-row-preserved c =
    let more = filter_map_more (list_of c.args.base.now) c.args.rows.now c.loop-row.row-index c.row-item.result c.loop-row-test.true in
    grind (arith, common_steps, more, c.row-item.is, c.loop-row.invariant)
