use Rattle.std.proofs.Common.{◌≡◌, ◌++◌, ℕ, ◌<◌, false}
use Rattle.slug_naming.specs.Names.{candidate_end}
use Rattle.slug_naming.specs.PlainTexts.{are_no_rows}
use Rattle.slug_naming.proofs.name_candidates.first_free_from.Given as goal

-- the earlier candidates are taken
abbrev pub invariant-loop-number : goal.invariant-loop-number
invariant-loop-number g l = (k : ℕ) → k < l.number → are_no_rows (g.T.Taken.is_row l.taken) (l.base ++ candidate_end k) ≡ false
