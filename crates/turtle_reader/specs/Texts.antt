-- The lexemes of a text of a start symbol: the tokens of Turtle, and in an update the words INSERT,
-- DELETE and DATA in any case, which are lexemes where no token begins: `insert:a` is a name.
use Rattle.std.specs.Prelude.{◌≡◌, ℕ, ◌<◌, ◌≤◌, Bool, true, false, List, [], ◌∷◌, ◌++◌, length, drop}
use Rattle.std.specs.Prelude.{Option, Some, None, Result, Ok, Err}
use lib.Chars.{codes}
use Rattle.turtle_lex.specs.declared.token.Token.{Token as LexToken}
use Rattle.turtle_lex.specs.declared.token.TokenKind.TheVariants.{LangTag, Carets}
use Rattle.turtle_lex.specs.declared.token.LexFault.{LexFault}
use Rattle.turtle_lex.specs.declared.token.LexFault.TheVariants.{NotText, BadToken, NoMemory}
use Rattle.turtle_lex.specs.Pattern.{any_case, Matches}
use Rattle.turtle_lex.specs.Tokens.{IsAnswer, is_string, listed_token}
use Rattle.turtle_grammar.specs.declared.production.Production.{Production}
use Rattle.turtle_grammar.specs.declared.symbol.Start.{Start}
use Rattle.turtle_grammar.specs.declared.symbol.Start.TheVariants.{Update}
use Rattle.turtle_grammar.specs.declared.symbol.Symbol.{Symbol}
use Rattle.turtle_grammar.specs.declared.symbol.Symbol.TheVariants.{Token, Insert, Delete, Data}
use Rattle.turtle_grammar.specs.Derivations.{Derives}
use Rattle.turtle_grammar.specs.Readings.{Produces}
use Rattle.turtle_reader.specs.declared.lexeme.Lexeme.{Lexeme}
use Rattle.turtle_reader.specs.declared.meaning.Meaning.{Meaning}
use Rattle.turtle_reader.specs.declared.referent.ResolvedTriple.{ResolvedTriple}
use Rattle.turtle_reader.specs.Contexts.{at_start}
use Rattle.turtle_reader.specs.Faults.{Next}
use Rattle.turtle_reader.specs.Handed.{AreResolved}
use Rattle.turtle_reader.specs.Lexemes.{lexeme_of, symbols_of}
use Rattle.turtle_reader.specs.Meanings.{AreMeanings}

-- The word of a symbol is a prefix of s, in any case, and r is left.
abbrev pub MatchesWord : Symbol → List ℕ → List ℕ → Type 0
MatchesWord Insert s r = Matches (any_case (codes "INSERT")) s r
MatchesWord Delete s r = Matches (any_case (codes "DELETE")) s r
MatchesWord Data s r = Matches (any_case (codes "DATA")) s r
MatchesWord (Token kind) s r = ⊥

-- no word is a prefix of s
abbrev pub HasNoWord : List ℕ → Type 0
HasNoWord s = (symbol : Symbol) (r : List ℕ) → MatchesWord symbol s r → ⊥

-- The lexeme is a word of these bytes.
pub record IsWordOf (bytes : List ℕ) (lexeme : Lexeme) : Type 0 where
  pub in_order : lexeme.from < lexeme.to
  pub within : lexeme.to ≤ length bytes
  pub matches : MatchesWord lexeme.symbol (drop lexeme.from bytes) (drop lexeme.to bytes)

-- what an update has at a position where no token begins: a word there, or the fault
abbrev pub IsWordAnswer : List ℕ → ℕ → Next → Type 0
IsWordAnswer bytes at (Ok (Some lexeme)) = (lexeme.from ≡ at) × IsWordOf bytes lexeme
IsWordAnswer bytes at (Ok None) = ⊥
IsWordAnswer bytes at (Err fault) = (fault ≡ BadToken at) × HasNoWord (drop at bytes)

-- what a text of the start symbol has there
abbrev pub IsTokenlessAnswer : Start → List ℕ → ℕ → Next → Type 0
IsTokenlessAnswer Update bytes at next = IsWordAnswer bytes at next
IsTokenlessAnswer start bytes at next = next ≡ Err (BadToken at)

-- what a lexer of tokens has next
abbrev pub Answer : Type 0
Answer = Result (Option LexToken) LexFault

-- what the text has next, where the lexer has this, after a String or after another lexeme
abbrev pub IsReadAs : Start → List ℕ → Bool → Answer → Next → Type 0
IsReadAs start bytes after_string (Ok (Some token)) next =
    next ≡ Ok (Some (lexeme_of (listed_token after_string token)))
IsReadAs start bytes after_string (Ok None) next = next ≡ Ok None
IsReadAs start bytes after_string (Err (NotText at)) next = next ≡ Err (NotText at)
IsReadAs start bytes after_string (Err (BadToken at)) next = IsTokenlessAnswer start bytes at next
IsReadAs start bytes after_string (Err NoMemory) next = ⊥

-- What a text has from `from` on: a lexeme, only blanks and comments, or a fault.
abbrev pub IsLexed : Start → List ℕ → ℕ → Bool → Next → Type 0
IsLexed start bytes from after_string next =
    (answer : Answer) × IsAnswer bytes from answer × IsReadAs start bytes after_string answer next

-- whether a lexeme is a String
abbrev pub is_string_symbol : Symbol → Bool
is_string_symbol (Token kind) = is_string kind
is_string_symbol word = false

-- From `from` on these are the lexemes up to `to`, each the first after the one before.
-- `after_string` says whether a String precedes them, and `string` whether the last is one.
abbrev pub AreLexemesTo : Start → List ℕ → ℕ → Bool → List Lexeme → ℕ → Bool → Type 0
AreLexemesTo start bytes from after_string [] to string = (from ≡ to) × (after_string ≡ string)
AreLexemesTo start bytes from after_string (lexeme ∷ lexemes) to string =
    IsLexed start bytes from after_string (Ok (Some lexeme))
    × AreLexemesTo start bytes lexeme.to (is_string_symbol lexeme.symbol) lexemes to string

-- These are the first lexemes of the bytes, and this comes after them.
pub record AreFirst (start : Start) (bytes : List ℕ) (lexemes : List Lexeme) (next : Next)
    : Type 0 where
  pub to : ℕ
  pub string : Bool
  pub lexemes_are : AreLexemesTo start bytes 0 false lexemes to string
  pub lexed : IsLexed start bytes to string next

-- The bytes are a text of the start symbol under a base: their lexemes derive one, and each has a
-- meaning under the directives before it.
pub record IsText (start : Start) (base bytes : List ℕ) (productions : List Production)
    (meanings : List Meaning) : Type 0 where
  pub lexemes : List Lexeme
  pub are_lexemes : AreFirst start bytes lexemes (Ok None)
  pub derives : Derives start (symbols_of lexemes) productions
  pub means : AreMeanings bytes (at_start base) lexemes meanings

-- whether what comes next adds a tag or a datatype to a String
abbrev pub adds : Symbol → Bool
adds (Token LangTag) = true
adds (Token Carets) = true
adds symbol = false

abbrev pub adds_to_string : Next → Bool
adds_to_string (Ok (Some lexeme)) = adds lexeme.symbol
adds_to_string next = false

-- Which of the productions of some lexemes are complete, by whether the last lexeme is a String and
-- whether something is added to it: then all but the last production, which is its own.
abbrev pub AreCompleteWhere : Bool → Bool → List Production → List Production → Type 0
AreCompleteWhere true true produced complete =
    (own : Production) × (produced ≡ complete ++ own ∷ [])
AreCompleteWhere string adds produced complete = produced ≡ complete

-- These are the triples that are complete with these first lexemes of the bytes.
pub record AreComplete (start : Start) (base bytes : List ℕ) (lexemes : List Lexeme)
    (triples : List ResolvedTriple) : Type 0 where
  pub next : Next
  pub productions : List Production
  pub complete : List Production
  pub meanings : List Meaning
  pub follows : AreFirst start bytes lexemes next
  pub produces : Produces start (symbols_of lexemes) productions
  pub completes : AreCompleteWhere follows.string (adds_to_string next) productions complete
  pub means : AreMeanings bytes (at_start base) lexemes meanings
  pub resolved : AreResolved meanings complete triples
