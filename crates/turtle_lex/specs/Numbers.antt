-- INTEGER, DECIMAL and DOUBLE.
use Rattle.std.specs.Prelude.{◌≡◌, ℕ, ◌<◌, ◌≤◌, ◌⊎◌, List, length}
use lib.Chars.{codes}
use Rattle.turtle_lex.specs.declared.numbers.Number.{Number}
use Rattle.turtle_lex.specs.declared.numbers.Number.TheVariants.{Integer, Decimal, Double}
use Rattle.turtle_lex.specs.Classes.{is_sign}
use Rattle.turtle_lex.specs.Pattern.{Pattern, word, one, ◌∘◌, ◌∣◌, many, some, Matches}
use Rattle.turtle_lex.specs.Terminals.{digit, exponent, sign}

-- a number after its sign
abbrev pub body : Number → Pattern
body Integer = some digit
body Decimal = many digit ∘ word (codes ".") ∘ some digit
body Double = some digit ∘ word (codes ".") ∘ many digit ∘ exponent
    ∣ word (codes ".") ∘ some digit ∘ exponent
    ∣ some digit ∘ exponent

abbrev pub signed : Number → Pattern
signed n = sign ∘ body n

-- Of the numbers that the text begins with, one of this kind is the longest, and no other is as
-- long.
pub record IsLongestNumber (pattern : Number
    → Pattern) (kind : Number) (s e : List ℕ) : Type 0 where
  pub found : Matches (pattern kind) s e
  pub longest : (j : Number) (r : List ℕ) → Matches (pattern j) s r → (length e < length r)
      ⊎ ((j ≡ kind) × (length e ≤ length r))

-- the text begins with no number
abbrev pub HasNoNumber : (Number → Pattern) → List ℕ → Type 0
HasNoNumber pattern s = (j : Number) (r : List ℕ) → Matches (pattern j) s r → ⊥

-- the text may have a sign, and r is after it: what else the sign may leave begins with a sign
pub record IsSigned (s r : List ℕ) : Type 0 where
  pub found : Matches sign s r
  pub others : (m : List ℕ) → Matches sign s m → (m ≡ r)
      ⊎ ((w : List ℕ) × Matches (one is_sign) m w)
