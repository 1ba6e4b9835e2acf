use Rattle.std.proofs.Common.{rules, ◌∙◌}
use Rattle.pod_edits.proofs.ListSteps.{all_mapped, creation_from}
use Rattle.pod_edits.proofs.edit_lists.creation.Goals as goal

pub returns : goal.returns
returns c = λ rows is.
    c.from_vec.ensures.items
    ∙ creation_from rows c.args.row c.args.place c.loop-path.edits.items c.push-2.new.self.items c.push_touch.new.edits.items
    (all_mapped c.args.row.modified c.as_slice-path-items.result.now c.args.place.missing.items c.loop-path.path-index c.loop-path.edits.items c.loop-path.invariant c.as_slice-path-items.ensures c.loop-path-test.false)
    (search rules) (search rules) is
