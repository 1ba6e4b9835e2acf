-- What lexemes mean by themselves, under the base and the prefixes in force.
use Rattle.std.specs.Prelude.{◌≡◌, ℕ, List, [], ◌∷◌, Option, Some, None, Result, Ok, Err}
use Rattle.rdf_graph.specs.declared.term.Term.{Term}
use Rattle.turtle_lex.specs.declared.token.TokenKind.{TokenKind}
use Rattle.turtle_lex.specs.declared.token.TokenKind.TheVariants as Kind
use Rattle.turtle_lex.specs.declared.token.Token.{Token as LexToken}
use Rattle.turtle_lex.specs.Laws.{text_of}
use Rattle.turtle_grammar.specs.declared.symbol.Symbol.{Symbol}
use Rattle.turtle_grammar.specs.declared.symbol.Symbol.TheVariants.{Token}
use Rattle.turtle_terms.specs.declared.fault.TurtleFault.{TurtleFault}
use Rattle.turtle_terms.specs.Prefixes.{Prefixes}
use Rattle.turtle_terms.specs.Values.{prefix_value, language_value, variable_value}
use Rattle.turtle_terms.specs.Meaning.{IsTermOf}
use Rattle.turtle_reader.specs.declared.lexeme.Lexeme.{Lexeme}
use Rattle.turtle_reader.specs.declared.meaning.Meaning.{Meaning}
use Rattle.turtle_reader.specs.declared.meaning.Meaning.TheVariants as meaning_of
use Rattle.turtle_reader.specs.declared.context.Directive.{Directive}
use Rattle.turtle_reader.specs.declared.context.Directive.TheVariants as directive_of
use Rattle.turtle_reader.specs.declared.context.Context.{Context}
use Rattle.turtle_reader.specs.Lexemes.{token_at}
use Rattle.turtle_reader.specs.Contexts.{context_after}

-- the meaning of a language tag and of a variable
abbrev pub special_meaning : TokenKind → List ℕ → Option Meaning
special_meaning Kind.LangTag text = Some (meaning_of.Language (language_value text))
special_meaning Kind.Variable text = Some (meaning_of.Variable (variable_value text))
special_meaning kind text = None

abbrev pub term_meaning : Option Term → Meaning
term_meaning (Some term) = meaning_of.Term term
term_meaning None = meaning_of.Nothing

-- The meaning of a token by its term, or the fault of its IRI.
abbrev pub IsTermMeaning : List ℕ → Prefixes → List ℕ → LexToken → Result Meaning TurtleFault → Type 0
IsTermMeaning base prefixes bytes token (Ok meaning) =
    (term : Option Term) × IsTermOf base prefixes bytes token (Ok term) × (meaning ≡ term_meaning term)
IsTermMeaning base prefixes bytes token (Err fault) = IsTermOf base prefixes bytes token (Err fault)

-- that, where it has no special meaning
abbrev pub IsPlainMeaning : Option Meaning → List ℕ → Prefixes → List ℕ → LexToken
    → Result Meaning TurtleFault → Type 0
IsPlainMeaning (Some meaning) base prefixes bytes token outcome = outcome ≡ Ok meaning
IsPlainMeaning None base prefixes bytes token outcome =
    IsTermMeaning base prefixes bytes token outcome

-- The token after `@prefix` or `PREFIX` is the name that is declared, and no term.
abbrev pub IsTokenMeaning : Directive → List ℕ → Prefixes → List ℕ → LexToken
    → Result Meaning TurtleFault → Type 0
IsTokenMeaning directive_of.Name base prefixes bytes token outcome =
    outcome ≡ Ok (meaning_of.Name (prefix_value (text_of bytes token)))
IsTokenMeaning directive base prefixes bytes token outcome =
    IsPlainMeaning (special_meaning token.kind (text_of bytes token)) base prefixes bytes token outcome

-- Words have no meaning by themselves.
abbrev pub IsMeaningBy : Symbol → List ℕ → Context → Lexeme → Result Meaning TurtleFault → Type 0
IsMeaningBy (Token kind) bytes c lexeme outcome =
    IsTokenMeaning c.directive c.base c.scope bytes (token_at kind lexeme) outcome
IsMeaningBy word bytes c lexeme outcome = outcome ≡ Ok meaning_of.Nothing

-- What a lexeme of the bytes means, or the fault of its IRI.
abbrev pub IsMeaning : List ℕ → Context → Lexeme → Result Meaning TurtleFault → Type 0
IsMeaning bytes c lexeme outcome = IsMeaningBy lexeme.symbol bytes c lexeme outcome

-- What lexemes mean, each under the directives before it.
abbrev pub AreMeanings : List ℕ → Context → List Lexeme → List Meaning → Type 0
AreMeanings bytes c [] [] = Unit {0}
AreMeanings bytes c [] (meaning ∷ meanings) = ⊥
AreMeanings bytes c (lexeme ∷ lexemes) [] = ⊥
AreMeanings bytes c (lexeme ∷ lexemes) (meaning ∷ meanings) =
    IsMeaning bytes c lexeme (Ok meaning)
    × AreMeanings bytes (context_after c lexeme meaning) lexemes meanings
