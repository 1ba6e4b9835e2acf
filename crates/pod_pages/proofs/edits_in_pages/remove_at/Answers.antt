use Rattle.std.proofs.Common.{rules}
use Rattle.pod_pages.proofs.EditSteps.{removed_rows, removed_marks}
use Rattle.pod_pages.proofs.edits_in_pages.remove_at.Goals as goal

pub returns-clause-rows : goal.returns-clause-rows
returns-clause-rows c = removed_rows c.args.rows.now c.in_ok-all.all c.in-Some.row.now _ (search rules) (search rules)

pub returns-clause-marks : goal.returns-clause-marks
returns-clause-marks c = removed_marks c.args.old.now c.args.rows.now c.in_ok-all.all c.in-Some.row.now.path (search rules)
