-- Runs of the characters of a class.
use Rattle.std.specs.Prelude.{ℕ, Bool, List, None}
use lib.Chars.{codes}
use Rattle.std.specs.Char.{is_ascii_alphanumeric}
use Rattle.turtle_lex.specs.Pattern.{Pattern, word, one, ◌∘◌, many, some, Matches, MatchesOnly}

-- The text begins with characters that pass, and r begins with none.
pub record IsRun (p : ℕ → Bool) (s r : List ℕ) : Type 0 where
  pub found : Matches (many (one p)) s r
  pub stops : MatchesOnly (one p) r None

-- the same, of one character at least
pub record IsSomeRun (p : ℕ → Bool) (s r : List ℕ) : Type 0 where
  pub found : Matches (some (one p)) s r
  pub stops : MatchesOnly (one p) r None

-- the parts of a LANGTAG after its first
abbrev pub tag_part : Pattern
tag_part = word (codes "-") ∘ some (one is_ascii_alphanumeric)
