use Rattle.pod_pages.proofs.EditSteps.{put_rows, put_marks}
use Rattle.pod_pages.proofs.edits_in_pages.put_row.Goals as goal

pub returns-clause-rows : goal.returns-clause-rows
returns-clause-rows c = put_rows c.args.old.now c.args.rows.now c.in_ok-next.next c.in_ok-item.item c.args.row c.in_ok-item.ensures c.in_ok-next.ensures

pub returns-clause-marks : goal.returns-clause-marks
returns-clause-marks c = put_marks c.args.old.now c.args.rows.now c.in_ok-next.next c.in_ok-item.item c.args.row c.in_ok-item.ensures c.in_ok-next.ensures
