use Rattle.std.proofs.Common.{◌+◌, ◌∙◌, sym, ap, Option, Some, List, get_or}
use Rattle.pod_command.specs.declared.row.Row.{Row}
use Rattle.pod_rows.specs.Apply.{edited, edited_if}
use Rattle.pod_rows.specs.RowLists.{items_if}
use Rattle.pod_rows.proofs.Steps.{edits_more, edits_stopped}
use Rattle.pod_rows.proofs.rows_after_edits.after_edits.Goals as goal

pub returns-in-None : goal.returns-in-None
returns-in-None c =
    sym (edits_stopped (Some c.args.rows.now) c.args.edits.now (c.loop-edit.edit-index + 1)
    (edits_more (Some c.args.rows.now) c.args.edits.now c.loop-edit.edit-index c.edit-item.result c.loop-edit-test.true
    ∙ ap (λ (o : Option (List Row)). edited_if o (get_or c.args.edits.now c.loop-edit.edit-index c.edit-item.result)) c.loop-edit.invariant
    ∙ ap (edited c.loop-edit.now.items) (sym c.edit-item.is)
    ∙ ap (λ (rs : List Row). edited rs c.edit-item.result) (sym c.as_slice.ensures.value)
    ∙ sym c.in_ok-next.ensures
    ∙ ap items_if c.in-None.is))

pub loop-edit-preserved : goal.loop-edit-preserved
loop-edit-preserved c =
    edits_more (Some c.args.rows.now) c.args.edits.now c.loop-edit.edit-index c.edit-item.result c.loop-edit-test.true
    ∙ ap (λ (o : Option (List Row)). edited_if o (get_or c.args.edits.now c.loop-edit.edit-index c.edit-item.result)) c.loop-edit.invariant
    ∙ ap (edited c.loop-edit.now.items) (sym c.edit-item.is)
    ∙ ap (λ (rs : List Row). edited rs c.edit-item.result) (sym c.as_slice.ensures.value)
    ∙ sym c.in_ok-next.ensures
    ∙ ap items_if c.in-Some.is
