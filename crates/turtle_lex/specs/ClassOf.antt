-- The characters of each `Class`.
use Rattle.std.specs.Prelude.{ℕ, Bool}
use Rattle.std.specs.Char.{is_ascii_digit, is_ascii_hexdigit, is_ascii_alphabetic}
use Rattle.std.specs.Char.{is_ascii_alphanumeric}
use Rattle.turtle_lex.specs.declared.classes.Class.{Class}
use Rattle.turtle_lex.specs.declared.classes.Class.TheVariants.{Blank, LineEnd, InLine, InIri}
use Rattle.turtle_lex.specs.declared.classes.Class.TheVariants.{InLineString}
use Rattle.turtle_lex.specs.declared.classes.Class.TheVariants.{InLongString, Escaped, LocalEscaped}
use Rattle.turtle_lex.specs.declared.classes.Class.TheVariants.{Digit, HexDigit}
use Rattle.turtle_lex.specs.declared.classes.Class.TheVariants.{Letter, LetterOrDigit, Sign}
use Rattle.turtle_lex.specs.declared.classes.Class.TheVariants.{ExponentMark}
use Rattle.turtle_lex.specs.declared.classes.Class.TheVariants.{NameBase, NameFirst, NamePart}
use Rattle.turtle_lex.specs.Classes.{is_blank, is_line_end, is_in_line, is_iri_char, is_line_char}
use Rattle.turtle_lex.specs.Classes.{is_long_char}
use Rattle.turtle_lex.specs.Classes.{is_escaped, is_local_escaped, is_sign, is_exponent_mark}
use Rattle.turtle_lex.specs.Classes.{is_pn_chars_base, is_pn_chars_u, is_pn_chars}

-- the characters of a class
abbrev pub in_class : Class → ℕ → Bool
in_class Blank = is_blank
in_class LineEnd = is_line_end
in_class InLine = is_in_line
in_class InIri = is_iri_char
in_class (InLineString quote) = is_line_char quote
in_class (InLongString quote) = is_long_char quote
in_class Escaped = is_escaped
in_class LocalEscaped = is_local_escaped
in_class Digit = is_ascii_digit
in_class HexDigit = is_ascii_hexdigit
in_class Letter = is_ascii_alphabetic
in_class LetterOrDigit = is_ascii_alphanumeric
in_class Sign = is_sign
in_class ExponentMark = is_exponent_mark
in_class NameBase = is_pn_chars_base
in_class NameFirst = is_pn_chars_u
in_class NamePart = is_pn_chars
