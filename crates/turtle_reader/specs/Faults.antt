-- Why a text of lexemes goes wrong at one of them, for all kinds of faults but its size.
use Rattle.std.specs.Prelude.{◌≡◌, ◌<◌, ◌≤◌, ℕ, List, [], ◌∷◌, ◌++◌, length, Option, Some, None}
use Rattle.std.specs.Prelude.{Result, Ok, Err}
use Rattle.turtle_lex.specs.declared.token.LexFault.{LexFault}
use Rattle.turtle_lex.specs.declared.token.LexFault.TheVariants as lex
use Rattle.turtle_grammar.specs.declared.fault.TheConstants.{DEPTH_LIMIT}
use Rattle.turtle_grammar.specs.declared.production.Production.{Production}
use Rattle.turtle_grammar.specs.declared.symbol.Start.{Start}
use Rattle.turtle_grammar.specs.Derivations.{Derives, GoesOn, depth_from}
use Rattle.turtle_terms.specs.declared.fault.TurtleKind.TheVariants as Why
use Rattle.turtle_terms.specs.declared.fault.TurtleFault.{TurtleFault}
use Rattle.turtle_terms.specs.declared.fault.TurtleFault.TheVariants.{Bad, TooLarge, NoMemory}
use Rattle.turtle_reader.specs.declared.lexeme.Lexeme.{Lexeme}
use Rattle.turtle_reader.specs.declared.meaning.Meaning.{Meaning}
use Rattle.turtle_reader.specs.Contexts.{at_start, context_from}
use Rattle.turtle_reader.specs.Lexemes.{symbols_of}
use Rattle.turtle_reader.specs.Meanings.{IsMeaning, AreMeanings}

-- what follows some lexemes: a lexeme, the end of the text, or a text without a lexeme
abbrev pub Next : Type 0
Next = Result (Option Lexeme) LexFault

-- Nothing that begins with these lexemes and the next one can be derived; or the text, of this
-- length, ends after them, and they can't be derived.
abbrev pub IsStop : Start → ℕ → List Lexeme → Next → ℕ → Type 0
IsStop start end before (Ok (Some lexeme)) at =
    (at ≡ lexeme.from) × (GoesOn start (symbols_of (before ++ lexeme ∷ [])) → ⊥)
IsStop start end before (Ok None) at = (at ≡ end)
    × ((productions : List Production) → Derives start (symbols_of before) productions → ⊥)
IsStop start end before (Err fault) at = ⊥

-- The IRI of the next lexeme has this fault, under the directives before it.
abbrev pub HasNoIri : List ℕ → List ℕ → List Lexeme → Next → TurtleFault → Type 0
HasNoIri base bytes before (Ok (Some lexeme)) fault =
    (meanings : List Meaning) × AreMeanings bytes (at_start base) before meanings
    × IsMeaning bytes (context_from (at_start base) before meanings) lexeme (Err fault)
HasNoIri base bytes before next fault = ⊥

-- With the next lexeme more brackets are open than are allowed.
abbrev pub IsDeep : List Lexeme → Next → ℕ → Type 0
IsDeep before (Ok (Some lexeme)) at =
    (at ≡ lexeme.from) × (DEPTH_LIMIT < depth_from 0 (symbols_of (before ++ lexeme ∷ [])))
IsDeep before next at = ⊥

-- The fault is that of what follows these lexemes, which begin the text.
abbrev pub IsFaultAfter : Start → List ℕ → List ℕ → List Lexeme → Next → TurtleFault → Type 0
IsFaultAfter start base bytes before next (Bad at Why.NotText) = next ≡ Err (lex.NotText at)
IsFaultAfter start base bytes before next (Bad at Why.BadToken) = next ≡ Err (lex.BadToken at)
IsFaultAfter start base bytes before next (Bad at Why.Grammar) =
    IsStop start (length bytes) before next at
IsFaultAfter start base bytes before next (Bad at Why.Prefix) =
    HasNoIri base bytes before next (Bad at Why.Prefix)
IsFaultAfter start base bytes before next (Bad at Why.BadIri) =
    HasNoIri base bytes before next (Bad at Why.BadIri)
IsFaultAfter start base bytes before next (Bad at Why.Depth) = IsDeep before next at
IsFaultAfter start base bytes before next (TooLarge at) = ⊥
IsFaultAfter start base bytes before next NoMemory = ⊥

-- Of the faults of one place the one of the least rank is told.
abbrev pub rank : TurtleFault → ℕ
rank (Bad at Why.NotText) = 0
rank (Bad at Why.BadToken) = 1
rank (Bad at Why.Grammar) = 2
rank (Bad at Why.Prefix) = 3
rank (Bad at Why.BadIri) = 4
rank (Bad at Why.Depth) = 5
rank (TooLarge at) = 6
rank NoMemory = 7

-- It is a fault there, and none there has a lesser rank.
pub record IsLeastAfter (start : Start) (base bytes : List ℕ) (before : List Lexeme) (next : Next)
    (fault : TurtleFault) : Type 0 where
  pub has : IsFaultAfter start base bytes before next fault
  pub least : (other : TurtleFault) → IsFaultAfter start base bytes before next other
      → rank fault ≤ rank other

abbrev pub HasNoFaultAfter : Start → List ℕ → List ℕ → List Lexeme → Next → Type 0
HasNoFaultAfter start base bytes before next =
    (fault : TurtleFault) → IsFaultAfter start base bytes before next fault → ⊥

-- the fault of a lexer as that of a text
abbrev pub document_fault : LexFault → TurtleFault
document_fault (lex.NotText at) = Bad at Why.NotText
document_fault (lex.BadToken at) = Bad at Why.BadToken
document_fault lex.NoMemory = NoMemory
