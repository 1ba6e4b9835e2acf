use Rattle.std.proofs.Common.{◌≡◌, ℕ, cond, None, take}
use Rattle.row_pages.specs.Items.{rows_of}
use Rattle.pod_pages.specs.Lists.{list_at}
use Rattle.pod_pages.specs.Numbering.{is_freed}
use Rattle.pod_pages.proofs.list_numbers.free_gone.Given as goal

abbrev pub invariant-loop-subject : goal.invariant-loop-subject
invariant-loop-subject l = (k : ℕ) → list_at l.places.items k ≡ cond (is_freed (rows_of l.rows) l.old (take l.subject-index l.subjects) k) None (list_at l.fn.places.items k)
