-- Patterns, as the productions of a grammar write them, and what they match at the start of a text.
-- A text is the list of its bytes, and a character is its bytes in UTF-8.
use Rattle.std.specs.Prelude.{◌≡◌, ℕ, zero, suc, ◌+◌, ◌*◌, Bool, true, ◌⊎◌, List, [], ◌∷◌, ◌++◌}
use Rattle.std.specs.Prelude.{length, map, ◌≤◌, Option, Some, IfSome, IsSomeAnd}
use Rattle.std.specs.Char.{IsScalar, encode_utf8, digit_value, is_ascii_hexdigit}
use Rattle.std.specs.Char.{to_ascii_lowercase}
use Rattle.std.specs.List.{list_all}

pub data Pattern : Type 0 where
  -- these characters, all of them ASCII
  word : List ℕ → Pattern
  -- these letters, each in upper or lower case
  any_case : List ℕ → Pattern
  -- one character that passes
  one : (ℕ → Bool) → Pattern
  -- so many hexadecimal digits, which are the number of a character
  number : ℕ → Pattern
  -- the one, and then the other
  ◌∘◌ : Pattern → Pattern → Pattern
  -- the one or the other
  ◌∣◌ : Pattern → Pattern → Pattern
  -- any number of times, also none
  many : Pattern → Pattern

infixr 20 ◌∘◌
infixr 10 ◌∣◌
-- not at all, or once
abbrev pub maybe : Pattern → Pattern
maybe p = p ∣ word []

-- once or more
abbrev pub some : Pattern → Pattern
some p = p ∘ many p

-- the number that hexadecimal digits represent, after digits that represent n
abbrev pub hex_value : ℕ → List ℕ → ℕ
hex_value n [] = n
hex_value n (d ∷ ds) = hex_value (n * 16 + digit_value d) ds

-- R leads from s to r in so many steps
abbrev pub Times : (List ℕ → List ℕ → Type 0) → ℕ → List ℕ → List ℕ → Type 0
Times R zero s r = s ≡ r
Times R (suc n) s r = (m : List ℕ) × R s m × Times R n m r

-- s is a text of the pattern and then r
abbrev pub Matches : Pattern → List ℕ → List ℕ → Type 0
Matches (word w) s r = s ≡ w ++ r
Matches (any_case w) s r = (t : List ℕ) × (map to_ascii_lowercase t ≡ map to_ascii_lowercase w)
    × (s ≡ t ++ r)
Matches (one p) s r = (c : ℕ) × IsScalar c × (p c ≡ true) × (s ≡ encode_utf8 c ++ r)
Matches (number n) s r = (ds : List ℕ) × (length ds ≡ n) × (list_all is_ascii_hexdigit ds ≡ true)
    × IsScalar (hex_value 0 ds) × (s ≡ ds ++ r)
Matches (p ∘ q) s r = (m : List ℕ) × Matches p s m × Matches q m r
Matches (p ∣ q) s r = Matches p s r ⊎ Matches q s r
Matches (many p) s r = (n : ℕ) × Times (Matches p) n s r

-- The text begins with the pattern in one way alone, and o is left; or it doesn't, and o is None.
pub record MatchesOnly (p : Pattern) (s : List ℕ) (o : Option (List ℕ)) : Type 0 where
  pub found : IfSome o (Matches p s)
  pub only : (r : List ℕ) → Matches p s r → o ≡ Some r

-- the text is empty, or begins with bytes that are no character
abbrev pub HasNoFirstChar : List ℕ → Type 0
HasNoFirstChar s = (c : ℕ) (r : List ℕ) → IsScalar c → s ≡ encode_utf8 c ++ r → ⊥

-- The longest text of the pattern at the start leaves o; or there is none, and o is None.
pub record MatchesLongest (p : Pattern) (s : List ℕ) (o : Option (List ℕ)) : Type 0 where
  pub found : IfSome o (Matches p s)
  pub longest : (r : List ℕ) → Matches p s r → IsSomeAnd o (λ e. length e ≤ length r)
