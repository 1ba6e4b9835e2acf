-- The terminals of Turtle (RDF 1.1 Turtle, section 6.5), with the variables and braces of patches.
use Rattle.std.specs.Prelude.{ℕ, replicate}
use Rattle.std.specs.Char.{is_ascii_digit, is_ascii_hexdigit, is_ascii_alphabetic}
use Rattle.std.specs.Char.{is_ascii_alphanumeric}
use lib.Chars.{codes}
use Rattle.turtle_lex.specs.Classes.{is_blank, is_in_line, is_line_end, is_iri_char, quote_char}
use Rattle.turtle_lex.specs.Classes.{is_line_char, is_long_char, is_escaped, is_local_escaped}
use Rattle.turtle_lex.specs.Classes.{is_sign, is_exponent_mark, is_pn_chars_base, is_pn_chars_u}
use Rattle.turtle_lex.specs.Classes.{is_pn_chars}
use Rattle.turtle_lex.specs.declared.classes.Quote.{Quote}
use Rattle.turtle_lex.specs.Pattern.{Pattern, word, one, number, ◌∘◌, ◌∣◌, many, maybe, some}

-- UCHAR, of a character
unfoldable pub uchar : Pattern
uchar = word (codes "\\u") ∘ number 4 ∣ word (codes "\\U") ∘ number 8

-- ECHAR
unfoldable pub echar : Pattern
echar = word (codes "\\") ∘ one is_escaped

-- IRIREF
unfoldable pub iri_ref : Pattern
iri_ref = word (codes "<") ∘ many (one is_iri_char ∣ uchar) ∘ word (codes ">")

-- so many quotes
abbrev pub quotes : Quote → ℕ → Pattern
quotes quote n = word (replicate n (quote_char quote))

-- STRING_LITERAL_QUOTE and STRING_LITERAL_SINGLE_QUOTE
unfoldable pub short_string : Quote → Pattern
short_string quote = quotes quote 1 ∘ many (one (is_line_char quote) ∣ echar ∣ uchar)
    ∘ quotes quote 1

-- STRING_LITERAL_LONG_QUOTE and STRING_LITERAL_LONG_SINGLE_QUOTE
unfoldable pub long_string : Quote → Pattern
long_string quote = quotes quote 3
    ∘ many (maybe (quotes quote 1 ∣ quotes quote 2) ∘ (one (is_long_char quote) ∣ echar ∣ uchar))
    ∘ quotes quote 3

-- a name of these parts and of dots, which doesn't end in a dot
unfoldable pub dotted : Pattern → Pattern → Pattern
dotted first part = first ∘ maybe (many (part ∣ word (codes ".")) ∘ part)

-- what follows `_:` in a BLANK_NODE_LABEL
unfoldable pub label : Pattern
label = dotted (one is_pn_chars_u ∣ one is_ascii_digit) (one is_pn_chars)

-- BLANK_NODE_LABEL
unfoldable pub blank_label : Pattern
blank_label = word (codes "_:") ∘ label

-- a variable of a patch
unfoldable pub variable : Pattern
variable = word (codes "?") ∘ label

-- PN_PREFIX
unfoldable pub pn_prefix : Pattern
pn_prefix = dotted (one is_pn_chars_base) (one is_pn_chars)

-- PNAME_NS
unfoldable pub pname_ns : Pattern
pname_ns = maybe pn_prefix ∘ word (codes ":")

-- PLX: PERCENT and PN_LOCAL_ESC
unfoldable pub plx : Pattern
plx = word (codes "%") ∘ one is_ascii_hexdigit ∘ one is_ascii_hexdigit
    ∣ word (codes "\\") ∘ one is_local_escaped

-- PN_LOCAL
unfoldable pub pn_local : Pattern
pn_local = dotted (one is_pn_chars_u ∣ word (codes ":") ∣ one is_ascii_digit
    ∣ plx) (one is_pn_chars ∣ word (codes ":") ∣ plx)

-- PNAME_LN
unfoldable pub pname_ln : Pattern
pname_ln = pname_ns ∘ pn_local

-- LANGTAG
unfoldable pub lang_tag : Pattern
lang_tag = word (codes "@") ∘ some (one is_ascii_alphabetic)
    ∘ many (word (codes "-") ∘ some (one is_ascii_alphanumeric))

abbrev pub digit : Pattern
digit = one is_ascii_digit

unfoldable pub sign : Pattern
sign = maybe (one is_sign)

-- EXPONENT
unfoldable pub exponent : Pattern
exponent = one is_exponent_mark ∘ sign ∘ some digit

-- INTEGER
unfoldable pub integer : Pattern
integer = sign ∘ some digit

-- DECIMAL
unfoldable pub decimal : Pattern
decimal = sign ∘ many digit ∘ word (codes ".") ∘ some digit

-- DOUBLE
unfoldable pub double : Pattern
double = sign ∘ (some digit ∘ word (codes ".") ∘ many digit ∘ exponent
    ∣ word (codes ".") ∘ some digit ∘ exponent
    ∣ some digit ∘ exponent)

-- ANON
unfoldable pub anon : Pattern
anon = word (codes "[") ∘ many (one is_blank) ∘ word (codes "]")

-- a comment, up to the end of its line
unfoldable pub comment : Pattern
comment = word (codes "#") ∘ many (one is_in_line)

-- what lies between two tokens: blanks, and comments with the ends of their lines
unfoldable pub gap : Pattern
gap = many (one is_blank ∣ comment ∘ one is_line_end)

-- what follows the last token: a comment there needs no end of its line
unfoldable pub last_gap : Pattern
last_gap = gap ∘ maybe comment
