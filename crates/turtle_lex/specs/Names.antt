-- Names of parts and dots, which don't end in a dot.
use mathlib.Core.List.{IsSuffix}
use Rattle.std.specs.Prelude.{◌≡◌, ℕ, ◌<◌, ◌≤◌, Bool, ◌&&◌, ◌||◌, not, nat_lt, ◌==◌, List, [], ◌∷◌, length, None}
use Rattle.std.specs.Char.{is_ascii_digit, is_ascii_hexdigit, is_ascii_alphabetic}
use lib.Chars.{codes}
use Rattle.turtle_lex.specs.declared.names.Parts.{Parts}
use Rattle.turtle_lex.specs.declared.names.Parts.TheVariants.{Plain, Local}
use Rattle.turtle_lex.specs.Classes.{is_pn_chars, is_pn_chars_u}
use Rattle.turtle_lex.specs.Pattern.{Pattern, word, one, ◌∘◌, ◌∣◌, many, maybe, Matches}
use Rattle.turtle_lex.specs.Pattern.{MatchesOnly}
use Rattle.turtle_lex.specs.Terminals.{plx, pn_prefix}

-- HEX HEX
abbrev pub two_digits : Pattern
two_digits = one is_ascii_hexdigit ∘ one is_ascii_hexdigit

abbrev pub colon_or_plx : Pattern
colon_or_plx = word (codes ":") ∣ plx

-- what a name is made of after its first part, beside dots
abbrev pub name_part : Parts → Pattern
name_part Plain = one is_pn_chars
name_part Local = one is_pn_chars ∣ colon_or_plx

-- the ASCII of PN_CHARS
unfoldable pub is_name_byte : ℕ → Bool
is_name_byte b = is_ascii_alphabetic b || is_ascii_digit b || b == 0x5F || b == 0x2D

-- the ASCII that no name goes on with
unfoldable pub is_name_end : ℕ → Bool
is_name_end b = nat_lt b 128 && not (is_name_byte b || b == 0x2E || b == 0x3A || b == 0x25 || b == 0x5C)

-- what a label, and what a local name, may begin with
abbrev pub label_first : Pattern
label_first = one is_pn_chars_u ∣ one is_ascii_digit

abbrev pub local_first : Pattern
local_first = one is_pn_chars_u ∣ word (codes ":") ∣ one is_ascii_digit ∣ plx

abbrev pub prefix_and_colon : Pattern
prefix_and_colon = pn_prefix ∘ word (codes ":")

abbrev pub dot : Pattern
dot = word (codes ".")

-- what follows the first part of a name
abbrev pub tail : Pattern → Pattern
tail part = maybe (many (part ∣ dot) ∘ part)

-- The name continues up to `end`, and the parts and dots up to `stop`.
pub record IsTail (part : Pattern) (s end stop : List ℕ) : Type 0 where
  pub found : Matches (tail part) s end
  pub longest : (r : List ℕ) → Matches (tail part) s r → length end ≤ length r
  pub dots : IsSuffix stop end
  -- no other end has something else than a part or a dot after it
  pub stops : (r : List ℕ) → Matches (tail part) s r → MatchesOnly part r None
      → MatchesOnly dot r None → r ≡ stop

-- No name goes on here.
abbrev pub EndsNames : List ℕ → Type 0
EndsNames s = (parts : Parts) → MatchesOnly (name_part parts) s None × MatchesOnly dot s None

abbrev pub StartsWithAscii : List ℕ → Type 0
StartsWithAscii [] = ⊥
StartsWithAscii (b ∷ s) = b < 128

-- No prefix with its colon begins at an ASCII byte of s before stop.
abbrev pub HasNoPrefixBefore : List ℕ → List ℕ → Type 0
HasNoPrefixBefore s stop = (u r : List ℕ) → IsSuffix u s → length stop < length u
    → StartsWithAscii u → Matches prefix_and_colon u r → ⊥

-- A prefix that begins at an ASCII byte before stop has its colon there, and no dot before it.
abbrev pub PrefixesEnd : List ℕ → List ℕ → List ℕ → Type 0
PrefixesEnd s end stop = (u r : List ℕ) → IsSuffix u s → length stop < length u
    → StartsWithAscii u → Matches prefix_and_colon u r → (end ≡ stop)
    × Matches (word (codes ":")) stop r
