use Rattle.std.proofs.Common.{◌||◌, ℕ, Bool, List, take}
use Rattle.access_index.specs.Listing.{is_listed}
use Rattle.pod_pages.specs.Numbering.{AreMarked, HaveMarks}
use Rattle.pod_pages.proofs.marks_of_paths.marked_paths.Given as goal

abbrev pub invariant-loop-path : goal.invariant-loop-path
invariant-loop-path l = (done : List ℕ → Bool) → HaveMarks l.numbers → AreMarked l.numbers done l.rows → AreMarked l.numbers (λ p. is_listed (take l.path-index l.paths) p || done p) l.now
