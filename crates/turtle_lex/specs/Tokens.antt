-- The tokens of a text (RDF 1.1 Turtle, sections 6.2 and 6.5).
use Rattle.std.specs.Prelude.{◌≡◌, ℕ, ◌<◌, ◌≤◌, Bool, true, false, ◌⊎◌, List, [], ◌∷◌, length, drop}
use Rattle.std.specs.Prelude.{Option, Some, None, Result, Ok, Err}
use lib.Chars.{codes}
use Rattle.turtle_lex.specs.declared.classes.Quote.{Quote}
use Rattle.turtle_lex.specs.declared.classes.Quote.TheVariants.{Double as DoubleQuote}
use Rattle.turtle_lex.specs.declared.classes.Quote.TheVariants.{Single as SingleQuote}
use Rattle.turtle_lex.specs.declared.token.TokenKind.{TokenKind}
use Rattle.turtle_lex.specs.declared.token.TokenKind.TheVariants.{IriRef, PnameNs, PnameLn}
use Rattle.turtle_lex.specs.declared.token.TokenKind.TheVariants.{BlankLabel, LangTag}
use Rattle.turtle_lex.specs.declared.token.TokenKind.TheVariants.{Integer, Decimal, Double, Quoted}
use Rattle.turtle_lex.specs.declared.token.TokenKind.TheVariants.{Anon}
use Rattle.turtle_lex.specs.declared.token.TokenKind.TheVariants.{AtPrefix, AtBase, Prefix, Base, A}
use Rattle.turtle_lex.specs.declared.token.TokenKind.TheVariants.{True, False}
use Rattle.turtle_lex.specs.declared.token.TokenKind.TheVariants.{Dot, Semicolon, Comma, Carets}
use Rattle.turtle_lex.specs.declared.token.TokenKind.TheVariants.{OpenSquare}
use Rattle.turtle_lex.specs.declared.token.TokenKind.TheVariants.{CloseSquare, OpenRound}
use Rattle.turtle_lex.specs.declared.token.TokenKind.TheVariants.{CloseRound, OpenBrace}
use Rattle.turtle_lex.specs.declared.token.TokenKind.TheVariants.{CloseBrace, Variable}
use Rattle.turtle_lex.specs.declared.token.Token.{Token}
use Rattle.turtle_lex.specs.declared.token.LexFault.{LexFault}
use Rattle.turtle_lex.specs.declared.token.LexFault.TheVariants.{NotText, BadToken, NoMemory}
use Rattle.turtle_lex.specs.Classes.{is_blank}
use Rattle.turtle_lex.specs.Pattern.{Pattern, word, any_case, one, ◌∣◌, Matches, HasNoFirstChar}
use Rattle.turtle_lex.specs.Terminals.{quotes, iri_ref, short_string, long_string, blank_label}
use Rattle.turtle_lex.specs.Terminals.{variable}
use Rattle.turtle_lex.specs.Terminals.{pname_ns, pname_ln, lang_tag, integer, decimal, double, anon}
use Rattle.turtle_lex.specs.Terminals.{gap, last_gap}

-- the terminal or the fixed word of each kind
abbrev pub terminal : TokenKind → Pattern
terminal IriRef = iri_ref
terminal PnameNs = pname_ns
terminal PnameLn = pname_ln
terminal BlankLabel = blank_label
terminal LangTag = lang_tag
terminal Integer = integer
terminal Decimal = decimal
terminal Double = double
terminal Quoted = short_string DoubleQuote ∣ short_string SingleQuote
    ∣ long_string DoubleQuote ∣ long_string SingleQuote
terminal Anon = anon
terminal AtPrefix = word (codes "@prefix")
terminal AtBase = word (codes "@base")
terminal Prefix = any_case (codes "PREFIX")
terminal Base = any_case (codes "BASE")
terminal A = word (codes "a")
terminal True = word (codes "true")
terminal False = word (codes "false")
terminal Dot = word (codes ".")
terminal Semicolon = word (codes ";")
terminal Comma = word (codes ",")
terminal Carets = word (codes "^^")
terminal OpenSquare = word (codes "[")
terminal CloseSquare = word (codes "]")
terminal OpenRound = word (codes "(")
terminal CloseRound = word (codes ")")
terminal OpenBrace = word (codes "{")
terminal CloseBrace = word (codes "}")
terminal Variable = variable

-- A String with this quote is a prefix of s, and r is left. Where three quotes begin the text, only
-- the long string is tried.
abbrev pub IsString : Quote → List ℕ → List ℕ → Type 0
IsString quote s r = Matches (long_string quote) s r
    ⊎ (Matches (short_string quote) s r × ((m : List ℕ) → Matches (quotes quote 3) s m → ⊥))

-- A text of this kind is a prefix of s, and r is left.
abbrev pub MatchesKind : TokenKind → List ℕ → List ℕ → Type 0
MatchesKind Quoted s r = (quote : Quote) × IsString quote s r
MatchesKind kind s r = Matches (terminal kind) s r

-- The token at the start of s, which leaves r: no kind has a longer text there, and another kind of
-- the same text is LANGTAG, which gives way to `@prefix` and `@base`.
pub record IsToken (kind : TokenKind) (s r : List ℕ) : Type 0 where
  pub matches : MatchesKind kind s r
  pub longest : (other : TokenKind) (q : List ℕ) → MatchesKind other s q → length r ≤ length q
  pub fixed : (other : TokenKind) → MatchesKind other s r → (other ≡ kind) ⊎ (other ≡ LangTag)

-- no kind has a text at the start of s
abbrev pub HasNoToken : List ℕ → Type 0
HasNoToken s = (kind : TokenKind) (r : List ℕ) → MatchesKind kind s r → ⊥

-- A token of these bytes: its text is of its kind, and no kind has a longer one at its position.
pub record IsTokenOf (bytes : List ℕ) (token : Token) : Type 0 where
  pub in_order : token.from < token.to
  pub within : token.to ≤ length bytes
  pub matches : MatchesKind token.kind (drop token.from bytes) (drop token.to bytes)
  pub longest : (other : TokenKind) (q : List ℕ) → MatchesKind other (drop token.from bytes) q
      → length (drop token.to bytes) ≤ length q

-- what a blank or a comment begins with
abbrev pub gap_start : Pattern
gap_start = one is_blank ∣ word (codes "#")

-- The first token of the text from `from` on: before it are blanks and comments alone.
pub record IsNext (bytes : List ℕ) (from : ℕ) (token : Token) : Type 0 where
  pub after : from ≤ token.from
  pub in_order : token.from < token.to
  pub within : token.to ≤ length bytes
  pub gap_before : Matches gap (drop from bytes) (drop token.from bytes)
  pub matches : IsToken token.kind (drop token.from bytes) (drop token.to bytes)

-- From `from` on there are blanks and comments up to `at`, where the bytes are no character.
pub record IsNotText (bytes : List ℕ) (from at : ℕ) : Type 0 where
  pub after : from ≤ at
  pub within : at < length bytes
  pub gap_before : Matches last_gap (drop from bytes) (drop at bytes)
  pub no_character : HasNoFirstChar (drop at bytes)

-- From `from` on there are blanks and comments up to `at`, where a character begins neither a token
-- nor a blank or comment.
pub record IsBadToken (bytes : List ℕ) (from at : ℕ) : Type 0 where
  pub after : from ≤ at
  pub within : at < length bytes
  pub gap_before : Matches gap (drop from bytes) (drop at bytes)
  pub gap_ends : (m : List ℕ) → Matches gap_start (drop at bytes) m → ⊥
  pub no_token : HasNoToken (drop at bytes)
  pub character : HasNoFirstChar (drop at bytes) → ⊥

-- What the text has from `from` on: its first token, only blanks and comments, or a fault.
abbrev pub IsAnswer : List ℕ → ℕ → Result (Option Token) LexFault → Type 0
IsAnswer bytes from (Ok (Some token)) = IsNext bytes from token
IsAnswer bytes from (Ok None) = Matches last_gap (drop from bytes) []
IsAnswer bytes from (Err (NotText at)) = IsNotText bytes from at
IsAnswer bytes from (Err (BadToken at)) = IsBadToken bytes from at
IsAnswer bytes from (Err NoMemory) = ⊥

-- the end of the tokens: nothing but blanks and comments is left, or a fault
abbrev pub IsEnd : Result (Option Token) LexFault → Type 0
IsEnd (Ok (Some token)) = ⊥
IsEnd (Ok None) = Unit {0}
IsEnd (Err fault) = Unit {0}

abbrev pub is_string : TokenKind → Bool
is_string Quoted = true
is_string kind = false

-- the kind of a token in a list: after a String `@prefix` and `@base` are LANGTAG
abbrev pub kind_after : Bool → TokenKind → TokenKind
kind_after true AtPrefix = LangTag
kind_after true AtBase = LangTag
kind_after after_string kind = kind

-- the token as it is listed, after a String or after another token
abbrev pub listed_token : Bool → Token → Token
listed_token after_string token = record {
  kind = kind_after after_string token.kind;
  from = token.from;
  to = token.to;
}

-- From `from` on these are the tokens up to `to`, each the first of the text after the one before.
-- `after_string` says whether a String precedes them, and `string` whether the last is one.
abbrev pub AreTokensTo : List ℕ → ℕ → Bool → List Token → ℕ → Bool → Type 0
AreTokensTo bytes from after_string [] to string = (from ≡ to) × (after_string ≡ string)
AreTokensTo bytes from after_string (token ∷ tokens) to string =
    (next : Token) × IsNext bytes from next × (token ≡ listed_token after_string next)
    × AreTokensTo bytes next.to (is_string next.kind) tokens to string

-- The tokens of the bytes: after the last there are only blanks and comments.
abbrev pub AreTokens : List ℕ → List Token → Type 0
AreTokens bytes tokens =
    (end : ℕ) × (string : Bool) × AreTokensTo bytes 0 false tokens end string
    × IsAnswer bytes end (Ok None)

-- The bytes have no tokens: after some tokens comes the fault.
abbrev pub HasFault : List ℕ → LexFault → Type 0
HasFault bytes fault =
    (tokens : List Token) × (end : ℕ) × (string : Bool)
    × AreTokensTo bytes 0 false tokens end string
    × IsAnswer bytes end (Err fault)

abbrev pub HasNoTokens : List ℕ → Type 0
HasNoTokens bytes = (tokens : List Token) → AreTokens bytes tokens → ⊥

abbrev pub HasNoFault : List ℕ → Type 0
HasNoFault bytes = (fault : LexFault) → HasFault bytes fault → ⊥

-- the bytes have these tokens and no others
abbrev pub AreAllTokens : List ℕ → List Token → Type 0
AreAllTokens bytes tokens = (others : List Token) → AreTokens bytes others → others ≡ tokens

-- the bytes have this fault and no other
abbrev pub IsOnlyFault : List ℕ → LexFault → Type 0
IsOnlyFault bytes fault = (other : LexFault) → HasFault bytes other → other ≡ fault
