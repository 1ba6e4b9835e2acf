-- Notes of which none is made.
use Rattle.std.proofs.Common.{◌≡◌, ℕ, zero, suc, Bool, false, List, get_or, replicate, refl, sym, ◌∙◌}
use Rattle.std.proofs.lemmas.Bool.{false≢true}
use Rattle.slug_naming.specs.TakenNotes.{AreTaken}

all_false : (n k : ℕ) → get_or (replicate n false) k false ≡ false
all_false zero k = refl
all_false (suc n) zero = refl
all_false (suc n) (suc k) = all_false n k

pub none_taken : (is_row : List ℕ → Bool) (base : List ℕ) (n : ℕ) → AreTaken is_row base (replicate n false)
none_taken is_row base n = λ k h. absurd (false≢true (sym (all_false n k) ∙ h))
