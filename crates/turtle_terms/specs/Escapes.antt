-- The escapes of Strings and IRIREFs (RDF 1.1 Turtle, section 6.4), decoded in one pass from left
-- to right.
use Rattle.std.specs.Prelude.{ℕ, ◌+◌, ◌-◌, ◌*◌, ◌||◌, ◌==◌, if◌then◌else◌, List, [], ◌∷◌, ◌++◌}
use Rattle.std.specs.Char.{encode_utf8, digit_value}
use lib.Utf8.{scalar}
use Rattle.turtle_terms.specs.declared.escapes.Escape.{Escape}
use Rattle.turtle_terms.specs.declared.escapes.Escape.TheVariants.{Outside, Opened, Number}

-- the character of an ECHAR, by the byte after its backslash
abbrev pub echar_value : ℕ → ℕ
echar_value b =
    if b == 116 then 9 else
    if b == 98 then 8 else
    if b == 110 then 10 else
    if b == 114 then 13 else
    if b == 102 then 12 else b

-- the bytes of the character with this number, and none where no character has it
abbrev pub char_bytes : ℕ → List ℕ
char_bytes n = if scalar n then encode_utf8 n else []

-- the state after one more byte
abbrev pub next_escape : Escape → ℕ → Escape
next_escape Outside b = if b == 92 then Opened else Outside
next_escape Opened b =
    if b == 117 then Number 3 0 else
    if b == 85 then Number 7 0 else Outside
next_escape (Number more value) b =
    if more == 0 then Outside else Number (more - 1) (value * 16 + digit_value b)

-- the bytes of the value that are complete with it
abbrev pub completed : Escape → ℕ → List ℕ
completed Outside b = if b == 92 then [] else b ∷ []
completed Opened b = if b == 117 || b == 85 then [] else echar_value b ∷ []
completed (Number more value) b =
    if more == 0 then char_bytes (value * 16 + digit_value b) else []

-- the value of the text that follows a state
unfoldable pub decoded_from : Escape → List ℕ → List ℕ
decoded_from escape [] = []
decoded_from escape (b ∷ bs) = completed escape b ++ decoded_from (next_escape escape b) bs

-- the text with each ECHAR and each UCHAR replaced by its character
abbrev pub decoded : List ℕ → List ℕ
decoded text = decoded_from Outside text
