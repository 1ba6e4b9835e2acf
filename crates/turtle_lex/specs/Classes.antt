-- The classes of characters that the terminals of Turtle are made of (RDF 1.1 Turtle, section 6.5).
use Rattle.std.specs.Prelude.{ℕ, Bool, false, not, ◌||◌, ◌==◌, List, [], ◌∷◌}
use Rattle.std.specs.Int.{is_in_range}
use Rattle.std.specs.Char.{is_ascii_digit, is_ascii_alphabetic}
use lib.Chars.{codes}
use Rattle.turtle_lex.specs.declared.classes.Quote.{Quote}
use Rattle.turtle_lex.specs.declared.classes.Quote.TheVariants.{Double, Single}

-- c is one of these
abbrev pub is_one_of : List ℕ → ℕ → Bool
is_one_of [] c = false
is_one_of (d ∷ ds) c = c == d || is_one_of ds c

-- WS
unfoldable pub is_blank : ℕ → Bool
is_blank c = is_one_of (0x20 ∷ 0x9 ∷ 0xD ∷ 0xA ∷ []) c

-- LF and CR, before which a comment ends
unfoldable pub is_line_end : ℕ → Bool
is_line_end c = is_one_of (0xA ∷ 0xD ∷ []) c

-- what a comment may hold
unfoldable pub is_in_line : ℕ → Bool
is_in_line c = not (is_one_of (0xA ∷ 0xD ∷ []) c)

-- what an IRIREF may hold, beside escapes
unfoldable pub is_iri_char : ℕ → Bool
is_iri_char c = not (is_in_range 0x00 0x20 c || is_one_of (codes "<>\"{}|^`\\") c)

-- the character of a quote
abbrev pub quote_char : Quote → ℕ
quote_char Double = 0x22
quote_char Single = 0x27

-- what a String between single quotes may hold, beside escapes
unfoldable pub is_line_char : Quote → ℕ → Bool
is_line_char quote c = not (is_one_of (quote_char quote ∷ 0x5C ∷ 0xA ∷ 0xD ∷ []) c)

-- what a String between three quotes may hold, beside quotes and escapes
unfoldable pub is_long_char : Quote → ℕ → Bool
is_long_char quote c = not (is_one_of (quote_char quote ∷ 0x5C ∷ []) c)

-- what follows the backslash of an ECHAR
unfoldable pub is_escaped : ℕ → Bool
is_escaped c = is_one_of (codes "tbnrf\"'\\") c

-- what follows the backslash of a PN_LOCAL_ESC
unfoldable pub is_local_escaped : ℕ → Bool
is_local_escaped c = is_one_of (codes "_~.-!$&'()*+,;=/?#@%") c

unfoldable pub is_sign : ℕ → Bool
is_sign c = is_one_of (codes "+-") c

-- what an EXPONENT begins with
unfoldable pub is_exponent_mark : ℕ → Bool
is_exponent_mark c = is_one_of (codes "eE") c

-- PN_CHARS_BASE
unfoldable pub is_pn_chars_base : ℕ → Bool
is_pn_chars_base c = is_ascii_alphabetic c || is_in_range 0xC0 0xD6 c || is_in_range 0xD8 0xF6 c
    || is_in_range 0xF8 0x2FF c || is_in_range 0x370 0x37D c
    || is_in_range 0x37F 0x1FFF c || is_in_range 0x200C 0x200D c || is_in_range 0x2070 0x218F c
    || is_in_range 0x2C00 0x2FEF c || is_in_range 0x3001 0xD7FF c
    || is_in_range 0xF900 0xFDCF c || is_in_range 0xFDF0 0xFFFD c || is_in_range 0x10000 0xEFFFF c

-- PN_CHARS_U
unfoldable pub is_pn_chars_u : ℕ → Bool
is_pn_chars_u c = is_pn_chars_base c || c == 0x5F

-- PN_CHARS
unfoldable pub is_pn_chars : ℕ → Bool
is_pn_chars c = is_pn_chars_u c || c == 0x2D || is_ascii_digit c || c == 0xB7
    || is_in_range 0x300 0x36F c || is_in_range 0x203F 0x2040 c
