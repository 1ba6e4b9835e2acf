-- The numbers whose delimiters are in a body: the digits that follow `--pod-`.
use Rattle.std.specs.Prelude.{◌≡◌, ℕ, ◌+◌, ◌-◌, ◌*◌, ◌<◌, Bool, false, ◌||◌, ◌==◌, if◌then◌else◌}
use Rattle.std.specs.Prelude.{List, [], ◌∷◌, ◌++◌, length, take, drop, slice_index_or, codes}
use Rattle.std.specs.Prelude.{bytes_eq}
use Rattle.std.specs.List.{list_any}
use Rattle.std.specs.Char.{is_ascii_digit}

-- the numbers whose digits are those of n and one or more of the text
abbrev pub longer_numbers : ℕ → List ℕ → List ℕ
longer_numbers n [] = []
longer_numbers n (c ∷ text) =
    if is_ascii_digit c then (n * 10 + (c - 48)) ∷ longer_numbers (n * 10 + (c - 48)) text else []

-- the numbers whose digits begin the text
abbrev pub first_numbers : List ℕ → List ℕ
first_numbers [] = []
first_numbers (c ∷ text) =
    if is_ascii_digit c then (c - 48) ∷ (if c == 48 then [] else longer_numbers (c - 48) text) else []

-- the numbers whose delimiters begin the text
abbrev pub delimiter_numbers : List ℕ → List ℕ
delimiter_numbers text = if bytes_eq (take 6 text) (codes "--pod-") then first_numbers (drop 6 text) else []

-- the numbers whose delimiters are in the body
abbrev pub body_numbers : List ℕ → List ℕ
body_numbers [] = []
body_numbers (b ∷ body) = delimiter_numbers (b ∷ body) ++ body_numbers body

abbrev pub has_number : List ℕ → ℕ → Bool
has_number numbers k = list_any (λ n. k == n) numbers

-- the notes have these numbers too, as far as they go
pub record AreNoted (old new : List Bool) (numbers : List ℕ) : Type 0 where
  pub same : length new ≡ length old
  pub noted : (k : ℕ) → k < length old → slice_index_or new k false ≡ (slice_index_or old k false || has_number numbers k)
