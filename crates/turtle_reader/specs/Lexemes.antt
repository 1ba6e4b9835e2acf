-- Tokens, and the words that SPARQL updates have beside them, as symbols with their places.
use Rattle.std.specs.Prelude.{ℕ, List, map}
use Rattle.turtle_lex.specs.declared.token.TokenKind.{TokenKind}
use Rattle.turtle_lex.specs.declared.token.Token.{Token as LexToken}
use Rattle.turtle_lex.specs.Tokens.{IsTokenOf}
use Rattle.turtle_grammar.specs.declared.symbol.Symbol.{Symbol}
use Rattle.turtle_grammar.specs.declared.symbol.Symbol.TheVariants.{Token}
use Rattle.turtle_reader.specs.declared.lexeme.Lexeme.{Lexeme}

abbrev pub lexeme_of : LexToken → Lexeme
lexeme_of token = record { symbol = Token token.kind; from = token.from; to = token.to }

abbrev pub lexemes_of : List LexToken → List Lexeme
lexemes_of tokens = map lexeme_of tokens

abbrev pub symbols_of : List Lexeme → List Symbol
symbols_of lexemes = map (λ lexeme. lexeme.symbol) lexemes

-- the token at the place of a lexeme
abbrev pub token_at : TokenKind → Lexeme → LexToken
token_at kind lexeme = record { kind = kind; from = lexeme.from; to = lexeme.to }

-- a lexeme with a token's symbol is a token of these bytes
abbrev pub IsPlaceOf : Symbol → List ℕ → Lexeme → Type 0
IsPlaceOf (Token kind) bytes lexeme = IsTokenOf bytes (token_at kind lexeme)
IsPlaceOf word bytes lexeme = Unit {0}

abbrev pub IsLexemeOf : List ℕ → Lexeme → Type 0
IsLexemeOf bytes lexeme = IsPlaceOf lexeme.symbol bytes lexeme
