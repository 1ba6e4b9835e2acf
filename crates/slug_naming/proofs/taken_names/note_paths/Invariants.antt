use Rattle.std.proofs.Common.{◌≡◌, ℕ, Bool, List, true, length}
use Rattle.std.specs.List.{All}
use Rattle.slug_naming.specs.TakenNotes.{AreTaken}
use Rattle.slug_naming.proofs.taken_names.note_paths.Given as goal

abbrev pub invariant-loop-path : goal.invariant-loop-path
invariant-loop-path l = record {
  same : length l.noted ≡ length l.fn.noted;
  taken : (is_row : List ℕ → Bool) → All (λ path. is_row path ≡ true) l.paths → AreTaken is_row l.base l.fn.noted → AreTaken is_row l.base l.noted;
}
