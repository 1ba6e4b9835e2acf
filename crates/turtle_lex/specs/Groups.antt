-- The kinds of tokens that a byte may begin.
use Rattle.std.specs.Prelude.{◌≡◌, ℕ, ◌≤◌, Bool, true, false, cond, ◌||◌, ◌==◌, ◌⊎◌, List, length}
use Rattle.std.specs.Prelude.{nat_lt}
use Rattle.std.specs.Char.{is_ascii_digit, is_ascii_alphabetic}
use Rattle.turtle_lex.specs.declared.numbers.Number.{Number}
use Rattle.turtle_lex.specs.declared.token.TokenKind.{TokenKind}
use Rattle.turtle_lex.specs.declared.token.TokenKind.TheVariants.{IriRef, PnameNs, PnameLn}
use Rattle.turtle_lex.specs.declared.token.TokenKind.TheVariants.{BlankLabel, LangTag, Integer}
use Rattle.turtle_lex.specs.declared.token.TokenKind.TheVariants.{Decimal, Double, Quoted, Anon}
use Rattle.turtle_lex.specs.declared.token.TokenKind.TheVariants.{AtPrefix, AtBase, Prefix, Base, A}
use Rattle.turtle_lex.specs.declared.token.TokenKind.TheVariants.{True, False, Dot, Semicolon}
use Rattle.turtle_lex.specs.declared.token.TokenKind.TheVariants.{Comma, Carets, OpenSquare}
use Rattle.turtle_lex.specs.declared.token.TokenKind.TheVariants.{CloseSquare, OpenRound}
use Rattle.turtle_lex.specs.declared.token.TokenKind.TheVariants.{CloseRound, OpenBrace, CloseBrace}
use Rattle.turtle_lex.specs.declared.token.TokenKind.TheVariants.{Variable}
use Rattle.turtle_lex.specs.declared.token_groups.Group.{Group}
use Rattle.turtle_lex.specs.declared.token_groups.Group.TheVariants.{Iris, Strings, Tags, Labels}
use Rattle.turtle_lex.specs.declared.token_groups.Group.TheVariants.{Variables, Numbers, Dots, Squares}
use Rattle.turtle_lex.specs.declared.token_groups.Group.TheVariants.{Names, Marks, Nothing}
use Rattle.turtle_lex.specs.declared.token_groups.Mark.{Mark}
use Rattle.turtle_lex.specs.Tokens.{MatchesKind}

abbrev pub in_group : Group → TokenKind → Bool
in_group Iris IriRef = true
in_group Strings Quoted = true
in_group Tags LangTag = true
in_group Tags AtPrefix = true
in_group Tags AtBase = true
in_group Labels BlankLabel = true
in_group Variables Variable = true
in_group Numbers Integer = true
in_group Numbers Decimal = true
in_group Numbers Double = true
in_group Dots Integer = true
in_group Dots Decimal = true
in_group Dots Double = true
in_group Dots Dot = true
in_group Squares OpenSquare = true
in_group Squares Anon = true
in_group Names PnameNs = true
in_group Names PnameLn = true
in_group Names A = true
in_group Names True = true
in_group Names False = true
in_group Names Prefix = true
in_group Names Base = true
in_group (Marks Mark.Carets) Carets = true
in_group (Marks Mark.Semicolon) Semicolon = true
in_group (Marks Mark.Comma) Comma = true
in_group (Marks Mark.CloseSquare) CloseSquare = true
in_group (Marks Mark.OpenRound) OpenRound = true
in_group (Marks Mark.CloseRound) CloseRound = true
in_group (Marks Mark.OpenBrace) OpenBrace = true
in_group (Marks Mark.CloseBrace) CloseBrace = true
in_group group kind = false

-- the token of a mark
abbrev pub mark_kind : Mark → TokenKind
mark_kind Mark.Carets = Carets
mark_kind Mark.Semicolon = Semicolon
mark_kind Mark.Comma = Comma
mark_kind Mark.CloseSquare = CloseSquare
mark_kind Mark.OpenRound = OpenRound
mark_kind Mark.CloseRound = CloseRound
mark_kind Mark.OpenBrace = OpenBrace
mark_kind Mark.CloseBrace = CloseBrace

-- the group of the kinds that an ASCII byte may begin
abbrev pub ascii_group : ℕ → Group
ascii_group b =
    cond (b == 0x3C) Iris (
    cond (b == 0x22 || b == 0x27) Strings (
    cond (b == 0x40) Tags (
    cond (b == 0x5F) Labels (
    cond (b == 0x3F) Variables (
    cond (is_ascii_digit b || (b == 0x2B || b == 0x2D)) Numbers (
    cond (b == 0x2E) Dots (
    cond (b == 0x5B) Squares (
    cond (is_ascii_alphabetic b || b == 0x3A) Names (
    cond (b == 0x5E) (Marks Mark.Carets) (
    cond (b == 0x3B) (Marks Mark.Semicolon) (
    cond (b == 0x2C) (Marks Mark.Comma) (
    cond (b == 0x5D) (Marks Mark.CloseSquare) (
    cond (b == 0x28) (Marks Mark.OpenRound) (
    cond (b == 0x29) (Marks Mark.CloseRound) (
    cond (b == 0x7B) (Marks Mark.OpenBrace) (
    cond (b == 0x7D) (Marks Mark.CloseBrace) (Nothing)))))))))))))))))

abbrev pub group_of : ℕ → Group
group_of b = cond (nat_lt b 128) (ascii_group b) Names

-- the token at the start among the kinds of a group
pub record IsTokenOfGroup (group : TokenKind
    → Bool) (kind : TokenKind) (s r : List ℕ) : Type 0 where
  pub matches : MatchesKind kind s r
  pub longest : (other : TokenKind) (q : List ℕ) → group other ≡ true → MatchesKind other s q
      → length r ≤ length q
  pub fixed : (other : TokenKind) → group other ≡ true → MatchesKind other s r → (other ≡ kind)
      ⊎ (other ≡ LangTag)

abbrev pub HasNoTokenOf : (TokenKind → Bool) → List ℕ → Type 0
HasNoTokenOf group s = (kind : TokenKind) (r : List ℕ) → group kind ≡ true → MatchesKind kind s r
    → ⊥

-- the kind of a number's token
abbrev pub kind_of : Number → TokenKind
kind_of Number.Integer = Integer
kind_of Number.Decimal = Decimal
kind_of Number.Double = Double

-- the fixed words of letters
abbrev pub is_word : TokenKind → Bool
is_word A = true
is_word True = true
is_word False = true
is_word Prefix = true
is_word Base = true
is_word kind = false
