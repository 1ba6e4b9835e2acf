use Rattle.std.proofs.Common.{rules, ◌∙◌, sym, ap, subst, List, Some}
use Rattle.std.proofs.lemmas.List.{append-nil}
use Rattle.row_pages.specs.Items.{Placed, rows_of}
use Rattle.pod_pages.specs.Edited.{AreMarkedBy, AreMarkedIf, rows_if}
use Rattle.pod_pages.proofs.EditSteps.{rows_more, rows_stopped, effects_more}
use Rattle.pod_pages.proofs.Placing.{marked_itself}
use Rattle.pod_pages.proofs.edits_in_pages.after_edits.Goals as goal

pub loop-edit-init : goal.loop-edit-init
loop-edit-init c = record {
  rows = ap (λ (is : List Placed). Some (rows_of is)) (sym c.in_ok-now.ensures);
  marks = subst (AreMarkedBy c.args.old.now) (sym c.in_ok-now.ensures) (marked_itself c.args.old.now c.are_in_order.ensures);
  effects = sym (append-nil c.args.effects.now.items);
}

pub loop-edit-preserved : goal.loop-edit-preserved
loop-edit-preserved c = record {
  rows =
      rows_more (rows_of c.args.old.now) (rows_of c.loop-edit.now) (rows_of c.in-Some.next) c.args.edits.now c.loop-edit.edit-index c.edit-item.result c.loop-edit-test.true c.edit-item.is c.loop-edit.invariant.rows
      (sym c.in_ok-after.ensures.rows ∙ ap rows_if c.in-Some.is);
  marks = subst (AreMarkedIf c.args.old.now) c.in-Some.is (c.in_ok-after.ensures.marks c.loop-edit.invariant.marks);
  effects =
      effects_more c.args.seq (rows_of c.args.old.now) (rows_of c.loop-edit.now) c.args.edits.now c.loop-edit.edit-index c.edit-item.result c.in_ok-effect.effect c.args.effects.now.items c.loop-edit.effects.items c.push.new.self.items
      c.loop-edit-test.true c.edit-item.is c.loop-edit.invariant.rows c.in_ok-effect.ensures c.loop-edit.invariant.effects (search rules);
}

pub returns-in-None-clause-rows : goal.returns-in-None-clause-rows
returns-in-None-clause-rows c =
    rows_stopped (rows_of c.args.old.now) (rows_of c.loop-edit.now) c.args.edits.now c.loop-edit.edit-index c.edit-item.result c.loop-edit-test.true c.edit-item.is c.loop-edit.invariant.rows
    (sym c.in_ok-after.ensures.rows ∙ ap rows_if c.in-None.is)
