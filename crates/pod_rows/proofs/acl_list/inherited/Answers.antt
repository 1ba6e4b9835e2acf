use Rattle.std.proofs.Common.{rules, ◌≡◌, ◌<◌, ◌-◌, ◌∙◌, ap, filter, take, None, Option, arith}
use Rattle.pod_path.specs.Hierarchy.{is_container}
use Rattle.pod_rows.specs.AclLists.{container_list, first_list, or_else}
use Rattle.pod_rows.specs.Tree.{beginnings}
use Rattle.pod_rows.specs.declared.acl_list.AclList.{AclList}
use Rattle.pod_rows.proofs.Lookups.{list_step, none_of}
use Rattle.pod_rows.proofs.acl_list.inherited.Goals as goal

pub loop-n-preserved : goal.loop-n-preserved
loop-n-preserved c =
    let some : 0 < c.loop-n.n = search rules in
    let none : container_list c.args.lists.now (take (c.loop-n.n - 1) c.args.path.now) ≡ None = none_of c.container_list-found.result _ c.container_list-found.ensures (search rules) in (
      omega (arith, c.loop-n.invariant.0),
      c.loop-n.invariant.1
          ∙ list_step c.args.lists.now c.args.path.now c.loop-n.n some
          ∙ ap (λ (o : Option AclList). or_else o (first_list c.args.lists.now (filter is_container (beginnings c.args.path.now (c.loop-n.n - 1))))) none,
    )
