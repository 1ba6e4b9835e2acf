use Rattle.std.proofs.Common.{◌≡◌, ◌++◌, take, Some}
use Rattle.pod_rows.specs.Apply.{after_edits}
use Rattle.row_pages.specs.Items.{rows_of}
use Rattle.pod_pages.specs.Edited.{AreMarkedBy}
use Rattle.pod_pages.specs.Effects.{effects_of}
use Rattle.pod_pages.proofs.edits_in_pages.after_edits.Given as goal

abbrev pub invariant-loop-edit : goal.invariant-loop-edit
invariant-loop-edit l = record {
  rows : after_edits (Some (rows_of l.old)) (take l.edit-index l.edits) ≡ Some (rows_of l.now);
  marks : AreMarkedBy l.old l.now;
  effects : l.effects.items ≡ l.fn.effects.items ++ effects_of l.seq (Some (rows_of l.old)) (take l.edit-index l.edits);
}
