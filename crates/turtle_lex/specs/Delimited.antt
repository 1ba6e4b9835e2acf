-- What lies between delimiters: the content of an IRIREF and of a String.
use Rattle.std.specs.Prelude.{◌≡◌, ℕ, Bool, not, ◌||◌, ◌==◌, List, Option, Some, IfSome}
use lib.Chars.{codes}
use Rattle.turtle_lex.specs.declared.classes.Quote.{Quote}
use Rattle.turtle_lex.specs.declared.classes.Class.{Class}
use Rattle.turtle_lex.specs.declared.classes.Class.TheVariants.{InIri, InLineString, InLongString}
use Rattle.turtle_lex.specs.declared.delimited.Content.{Content}
use Rattle.turtle_lex.specs.declared.delimited.Content.TheVariants.{Iri, Line, Long}
use Rattle.turtle_lex.specs.Classes.{is_iri_char, is_line_char, is_long_char}
use Rattle.turtle_lex.specs.Pattern.{Pattern, word, one, ◌∘◌, ◌∣◌, maybe}
use Rattle.turtle_lex.specs.Tokens.{IsString}
use Rattle.turtle_lex.specs.Terminals.{uchar, echar, quotes}

-- what the content has any number of
abbrev pub part : Content → Pattern
part Iri = one is_iri_char ∣ uchar
part (Line quote) = one (is_line_char quote) ∣ echar ∣ uchar
part (Long quote) = maybe (quotes quote 1 ∣ quotes quote 2)
    ∘ (one (is_long_char quote) ∣ echar ∣ uchar)

-- the class of the characters that are a part by themselves
abbrev pub plain_class : Content → Class
plain_class Iri = InIri
plain_class (Line quote) = InLineString quote
plain_class (Long quote) = InLongString quote

-- the byte is neither of these two
abbrev pub is_neither : ℕ → ℕ → ℕ → Bool
is_neither first second b = not (b == first || b == second)

-- the closing delimiter
abbrev pub close : Content → Pattern
close Iri = word (codes ">")
close (Line quote) = quotes quote 1
close (Long quote) = quotes quote 3

-- A String with this quote begins the text in one way alone, and o is left; or none does, and o is
-- None.
pub record StringOnly (quote : Quote) (s : List ℕ) (o : Option (List ℕ)) : Type 0 where
  pub found : IfSome o (IsString quote s)
  pub only : (r : List ℕ) → IsString quote s r → o ≡ Some r
