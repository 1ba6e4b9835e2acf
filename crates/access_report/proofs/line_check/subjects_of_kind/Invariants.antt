use Rattle.std.proofs.Common.{◌≡◌, filter, take}
use Rattle.access_report.specs.Subjects.{is_named}
use Rattle.access_report.proofs.line_check.subjects_of_kind.Given as goal

abbrev pub invariant-loop-subject : goal.invariant-loop-subject
invariant-loop-subject l = l.copies.items ≡ filter (is_named l.who) (take l.subject-index l.subjects)
