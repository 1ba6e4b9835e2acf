use Rattle.std.proofs.Common.{rules, ◌≡◌, ◌<◌, ◌-◌, ◌∙◌, ap, filter, take, None, Option, arith}
use Rattle.pod_path.specs.Hierarchy.{is_container}
use Rattle.pod_rows.specs.Tree.{beginnings}
use Rattle.access_index.specs.Tables.{container_entry, first_entry, or_else}
use Rattle.access_index.specs.declared.path_table.Entry.{Entry}
use Rattle.access_index.proofs.Resolving.{entry_step, none_of}
use Rattle.access_index.proofs.table_lookup.entry_above.Goals as goal

pub loop-n-preserved : goal.loop-n-preserved
loop-n-preserved c =
    let some : 0 < c.loop-n.n = search rules in
    let none : container_entry c.args.lists.now (take (c.loop-n.n - 1) c.args.path.now) ≡ None = none_of c.container_entry-found.result _ c.container_entry-found.ensures (search rules) in (
      omega (arith, c.loop-n.invariant.0),
      c.loop-n.invariant.1
          ∙ entry_step c.args.lists.now c.args.path.now c.loop-n.n some
          ∙ ap (λ (o : Option Entry). or_else o (first_entry c.args.lists.now (filter is_container (beginnings c.args.path.now (c.loop-n.n - 1))))) none,
    )
