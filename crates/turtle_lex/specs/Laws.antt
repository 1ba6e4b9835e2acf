-- What holds of all patterns, texts and tokens. Each law is the contract of a function of `laws`.
use mathlib.Core.List.{IsPrefix}
use lib.Chars.{codes}
use Rattle.std.specs.Prelude.{◌≡◌, ◌≢◌, ◌⊎◌, ℕ, ◌+◌, ◌<◌, Bool, true, false, List, [], ◌∷◌}
use Rattle.std.specs.Prelude.{◌++◌}
use Rattle.std.specs.Prelude.{length, get_or, replicate, take, Option, Result}
use Rattle.std.specs.Prelude.{slice_range}
use Rattle.std.specs.Str.{IsUtf8, IsValidUpTo}
use Rattle.turtle_lex.specs.declared.classes.Quote.{Quote}
use Rattle.turtle_lex.specs.declared.token.TokenKind.{TokenKind}
use Rattle.turtle_lex.specs.declared.token.TokenKind.TheVariants as Kind
use Rattle.turtle_lex.specs.declared.token.Token.{Token}
use Rattle.turtle_lex.specs.declared.token.LexFault.{LexFault}
use Rattle.turtle_lex.specs.declared.token.LexFault.TheVariants.{NotText, BadToken}
use Rattle.turtle_lex.specs.Classes.{quote_char, is_blank}
use Rattle.turtle_lex.specs.Pattern.{Pattern, one, maybe, Matches}
use Rattle.turtle_lex.specs.Terminals.{iri_ref, short_string, long_string, blank_label, lang_tag}
use Rattle.turtle_lex.specs.Terminals.{pn_prefix, pname_ns}
use Rattle.turtle_lex.specs.Terminals.{pn_local, pname_ln, gap}
use Rattle.turtle_lex.specs.Tokens.{IsString, MatchesKind, IsToken, IsTokenOf, IsNext, IsAnswer}
use Rattle.turtle_lex.specs.Tokens.{IsEnd, kind_after}
use Rattle.turtle_lex.specs.Tokens.{AreTokensTo, AreTokens, HasFault}

-- Patterns

-- the texts of a pattern: it matches each with nothing left
abbrev pub IsTextOf : Pattern → List ℕ → Type 0
IsTextOf pattern text = Matches pattern text []

-- What a pattern matches is one of its texts, and what is left.
abbrev pub MatchesItsTexts : Type 0
MatchesItsTexts = (pattern : Pattern) (s r : List ℕ) → Matches pattern s r
    → (text : List ℕ) × IsTextOf pattern text × (s ≡ text ++ r)

-- Each of its texts it matches, whatever is left.
abbrev pub MatchesAllItsTexts : Type 0
MatchesAllItsTexts = (pattern : Pattern) (text r : List ℕ) → IsTextOf pattern text
    → Matches pattern (text ++ r) r

-- Answers and lists

-- A text has at most one answer from a position on.
abbrev pub HasOneAnswer : Type 0
HasOneAnswer = (bytes : List ℕ) (from : ℕ) (a b : Result (Option Token) LexFault)
    → IsAnswer bytes from a → IsAnswer bytes from b → a ≡ b

-- A text has at most one list of tokens.
abbrev pub HasOneList : Type 0
HasOneList = (bytes : List ℕ) (tokens others : List Token) → AreTokens bytes tokens
    → AreTokens bytes others → tokens ≡ others

-- Tokens that were read are the first of those before the end of the text or its fault.
abbrev pub AreFirstTokens : Type 0
AreFirstTokens = (bytes : List ℕ) (read tokens : List Token) (to end : ℕ) (after string : Bool)
    (last : Result (Option Token) LexFault) → AreTokensTo bytes 0 false read to after
    → AreTokensTo bytes 0 false tokens end string → IsAnswer bytes end last → IsEnd last
    → (rest : List Token) × (read ++ rest ≡ tokens) × AreTokensTo bytes to after rest end string

-- UTF-8

-- A text with tokens is UTF-8.
abbrev pub TokensAreText : Type 0
TokensAreText = (bytes : List ℕ) (tokens : List Token) → AreTokens bytes tokens → IsUtf8 bytes

-- The bytes up to the end of the last token that was read are UTF-8.
abbrev pub TokensEndText : Type 0
TokensEndText = (bytes : List ℕ) (tokens : List Token) (to : ℕ) (string : Bool)
    → AreTokensTo bytes 0 false tokens to string → IsUtf8 (take to bytes)

-- The bytes before a `BadToken` are UTF-8.
abbrev pub BadTokenEndsText : Type 0
BadTokenEndsText = (bytes : List ℕ) (at : ℕ) → HasFault bytes (BadToken at) → IsUtf8 (take at bytes)

-- The position of `NotText` is where the bytes stop being UTF-8.
abbrev pub NotTextIsFirst : Type 0
NotTextIsFirst = (bytes : List ℕ) (at : ℕ) → HasFault bytes (NotText at) → IsValidUpTo bytes at

-- Texts of tokens

-- the text of a token
abbrev pub text_of : List ℕ → Token → List ℕ
text_of bytes token = slice_range bytes token.from token.to

-- The text of a token is a text of its kind.
abbrev pub TokenTextIsOfKind : Type 0
TokenTextIsOfKind = (bytes : List ℕ) (token : Token) → IsTokenOf bytes token
    → MatchesKind token.kind (text_of bytes token) []

-- The text of a token is UTF-8.
abbrev pub TokenTextIsUtf8 : Type 0
TokenTextIsUtf8 = (bytes : List ℕ) (token : Token) → IsTokenOf bytes token
    → IsUtf8 (text_of bytes token)

-- three of these quotes begin the text
abbrev pub StartsWithThree : Quote → List ℕ → Type 0
StartsWithThree quote s = IsPrefix (replicate 3 (quote_char quote)) s

-- A String begins with its quote, and it is long exactly where three quotes begin it.
abbrev pub StringStartsWithQuote : Type 0
StringStartsWithQuote = (quote : Quote) (s r : List ℕ) → IsString quote s r
    → IsPrefix (quote_char quote ∷ []) s

abbrev pub ThreeQuotesAreLong : Type 0
ThreeQuotesAreLong = (quote : Quote) (s r : List ℕ) → IsString quote s r → StartsWithThree quote s
    → Matches (long_string quote) s r

abbrev pub FewerQuotesAreShort : Type 0
FewerQuotesAreShort = (quote : Quote) (s r : List ℕ) → IsString quote s r
    → (StartsWithThree quote s → ⊥) → Matches (short_string quote) s r

-- no byte of the text is a colon
abbrev pub HasNoColon : List ℕ → Type 0
HasNoColon text = (i : ℕ) → i < length text → get_or text i 0 ≢ 58

-- The first `:` splits a PNAME_LN into its prefix, which may be missing, and its PN_LOCAL.
abbrev pub FirstColonSplitsName : Type 0
FirstColonSplitsName = (prefix local : List ℕ) → HasNoColon prefix
    → IsTextOf pname_ln (prefix ++ 58 ∷ local)
    → IsTextOf (maybe pn_prefix) prefix × IsTextOf pn_local local

-- A PNAME_NS ends in its first `:`.
abbrev pub FirstColonEndsPrefix : Type 0
FirstColonEndsPrefix = (prefix rest : List ℕ) → HasNoColon prefix
    → IsTextOf pname_ns (prefix ++ 58 ∷ rest)
    → IsTextOf (maybe pn_prefix) prefix × (rest ≡ [])

-- A PNAME_NS, with which a PNAME_LN begins, is a prefix, which may be missing, and its first `:`.
abbrev pub NameHasColon : Type 0
NameHasColon = (s r : List ℕ) → Matches pname_ns s r
    → (prefix : List ℕ) × HasNoColon prefix × IsTextOf (maybe pn_prefix) prefix
    × (s ≡ prefix ++ 58 ∷ r)

-- Written terms

-- the end of the text, or a blank
abbrev pub EndsTerm : List ℕ → Type 0
EndsTerm r = (r ≡ []) ⊎ ((m : List ℕ) × Matches (one is_blank) r m)

-- A text of IRIREF is the token, whatever follows it.
abbrev pub WrittenIri : Type 0
WrittenIri = (text r : List ℕ) → IsTextOf iri_ref text → IsToken Kind.IriRef (text ++ r) r

-- A text of a short String is the token before anything but its quote.
abbrev pub WrittenString : Type 0
WrittenString = (quote : Quote) (text r : List ℕ) → IsTextOf (short_string quote) text
    → (IsPrefix (quote_char quote ∷ []) r → ⊥) → IsToken Kind.Quoted (text ++ r) r

-- A text of BLANK_NODE_LABEL is the token before a blank.
abbrev pub WrittenLabel : Type 0
WrittenLabel = (text r : List ℕ) → IsTextOf blank_label text → EndsTerm r
    → IsToken Kind.BlankLabel (text ++ r) r

-- A text of LANGTAG but `@prefix` and `@base` is the token before a blank.
abbrev pub WrittenTag : Type 0
WrittenTag = (text r : List ℕ) → IsTextOf lang_tag text → text ≢ codes "@prefix"
    → text ≢ codes "@base" → EndsTerm r → IsToken Kind.LangTag (text ++ r) r

-- `@prefix` and `@base` are the fixed words before a blank.
abbrev pub WrittenWords : Type 0
WrittenWords = (r : List ℕ) → EndsTerm r
    → IsToken Kind.AtPrefix (codes "@prefix" ++ r) r × IsToken Kind.AtBase (codes "@base" ++ r) r

-- After a String each text of LANGTAG is listed as that, before a blank.
abbrev pub WrittenTagAfterString : Type 0
WrittenTagAfterString = (text r : List ℕ) → IsTextOf lang_tag text → EndsTerm r
    → (kind : TokenKind) × IsToken kind (text ++ r) r × (kind_after true kind ≡ Kind.LangTag)

-- `^^` is the token, whatever follows it.
abbrev pub WrittenCarets : Type 0
WrittenCarets = (r : List ℕ) → IsToken Kind.Carets (codes "^^" ++ r) r

-- `.` is the token before a blank.
abbrev pub WrittenDot : Type 0
WrittenDot = (r : List ℕ) → EndsTerm r → IsToken Kind.Dot (codes "." ++ r) r

-- A token after blanks and comments is the next one, from their start on.
abbrev pub NextIsToken : Type 0
NextIsToken = (before blanks text r : List ℕ) (kind : TokenKind) → IsTextOf gap blanks
    → IsToken kind (text ++ r) r
    → IsNext (before ++ (blanks ++ (text ++ r))) (length before) (record {
      kind = kind;
      from = length before + length blanks;
      to = length before + length blanks + length text;
    })
