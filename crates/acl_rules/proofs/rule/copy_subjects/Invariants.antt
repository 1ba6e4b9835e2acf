use Rattle.std.proofs.Common.{◌≡◌, take}
use Rattle.acl_rules.proofs.rule.copy_subjects.Given as goal

abbrev pub invariant-loop-subject : goal.invariant-loop-subject
invariant-loop-subject l = l.copies.items ≡ take l.subject-index l.subjects
