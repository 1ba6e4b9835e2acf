-- Which candidates are known to be taken.
use Rattle.std.specs.Prelude.{◌≡◌, ◌⊎◌, ℕ, ◌<◌, Bool, true, false, List, ◌++◌, codes, slice_index_or}
use Rattle.slug_naming.specs.Names.{candidate_end}
use Rattle.slug_naming.specs.PlainTexts.{are_no_rows}

-- the path is that of candidate k after the base, or that with a slash after it
abbrev pub IsOfCandidate : List ℕ → ℕ → List ℕ → Type 0
IsOfCandidate base k path =
    (path ≡ base ++ candidate_end k) ⊎ (path ≡ (base ++ candidate_end k) ++ codes "/")

abbrev pub IsTaken : (List ℕ → Bool) → List ℕ → ℕ → Type 0
IsTaken is_row base k = are_no_rows is_row (base ++ candidate_end k) ≡ false

-- each candidate that is noted is taken
abbrev pub AreTaken : (List ℕ → Bool) → List ℕ → List Bool → Type 0
AreTaken is_row base noted = (k : ℕ) → slice_index_or noted k false ≡ true → IsTaken is_row base k

-- each candidate before this one is taken
abbrev pub AreTakenBefore : (List ℕ → Bool) → List ℕ → ℕ → Type 0
AreTakenBefore is_row base n = (k : ℕ) → k < n → IsTaken is_row base k
