use Rattle.std.proofs.Common.{◌≡◌, take}
use Rattle.row_pages.specs.Items.{rows_of}
use Rattle.pod_pages.specs.Numbering.{changed_of}
use Rattle.pod_pages.proofs.list_numbers.changed_subjects.Given as goal

abbrev pub invariant-loop-subject : goal.invariant-loop-subject
invariant-loop-subject l = l.changed.items ≡ changed_of (rows_of l.old) (rows_of l.rows) (take l.subject-index l.subjects)
