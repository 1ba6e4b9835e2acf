use Rattle.std.proofs.Common.{◌≡◌, ◌∷◌, ◌++◌, filter, take}
use Rattle.pod_rows.specs.Apply.{is_before}
use Rattle.pod_rows.proofs.rows_after_edits.put_row.Given as goal

abbrev pub invariant-loop-other : goal.invariant-loop-other
invariant-loop-other l = l.all.items ≡ filter (λ r. is_before r.path l.row.path) (take l.other-index l.rows)

abbrev pub invariant-loop-later : goal.invariant-loop-later
invariant-loop-later l = l.all.items ≡ filter (λ r. is_before r.path l.row.path) l.rows ++ l.row ∷ filter (λ r. is_before l.row.path r.path) (take l.later-index l.rows)
