use Rattle.std.proofs.Common.{rules, ◌∙◌}
use Rattle.pod_edits.proofs.ListSteps.{deletion_from}
use Rattle.pod_edits.proofs.edit_lists.deletion.Goals as goal

pub returns : goal.returns
returns g c =
    c.from_vec.ensures.items
    ∙ deletion_from (g.S.PodState.pod c.args.state.now).rows c.args.path.now c.args.modified c.in_ok-acl.field-0 c.in_ok-meta.field-0 c.in_ok-parent.field-0
    c.push.new.self.items c.push_removal.new.edits.items c.push_removal-2.new.edits.items c.push_touch.new.edits.items
    (search rules) (search rules) (search rules) (search rules) (search rules) (search rules) (search rules)
