use Rattle.std.proofs.Common.{◌||◌, ℕ, Bool, List, take}
use Rattle.pod_pages.specs.Numbering.{AreMarked, HaveMarks, is_below}
use Rattle.pod_pages.proofs.marks_of_paths.marked_below.Given as goal

abbrev pub invariant-loop-subject : goal.invariant-loop-subject
invariant-loop-subject l = (done : List ℕ → Bool) → HaveMarks l.numbers → AreMarked l.numbers done l.rows → AreMarked l.numbers (λ p. is_below (take l.subject-index l.subjects) p || done p) l.now
