-- Laws of what lexemes mean and of their faults, for the proofs of the languages above.
use Rattle.std.specs.Prelude.{◌≡◌, ℕ, List, ◌∷◌, ◌++◌, Some, Result, Ok, Err}
use Rattle.turtle_grammar.specs.declared.production.Production.{Production}
use Rattle.turtle_grammar.specs.declared.symbol.Start.{Start}
use Rattle.turtle_terms.specs.declared.fault.TurtleFault.{TurtleFault}
use Rattle.turtle_reader.specs.declared.lexeme.Lexeme.{Lexeme}
use Rattle.turtle_reader.specs.declared.meaning.Meaning.{Meaning}
use Rattle.turtle_reader.specs.declared.context.Context.{Context}
use Rattle.turtle_reader.specs.declared.reader.Reader.{Reader}
use Rattle.turtle_reader.specs.Contexts.{context_from}
use Rattle.turtle_reader.specs.Faults.{HasNoFaultAfter}
use Rattle.turtle_reader.specs.Meanings.{IsMeaning, AreMeanings}
use Rattle.turtle_reader.specs.Readings.{IsReading}

-- a lexeme means one thing or has one fault
abbrev pub HasOneMeaning : Type 0
HasOneMeaning = (bytes : List ℕ) (c : Context) (lexeme : Lexeme) (a b : Result Meaning TurtleFault)
    → IsMeaning bytes c lexeme a → IsMeaning bytes c lexeme b → a ≡ b

-- lexemes have one list of meanings
abbrev pub HaveOneMeanings : Type 0
HaveOneMeanings = (bytes : List ℕ) (c : Context) (lexemes : List Lexeme) (a b : List Meaning)
    → AreMeanings bytes c lexemes a → AreMeanings bytes c lexemes b → a ≡ b

-- where lexemes have meanings, none has the fault of an IRI
abbrev pub MeansNoFault : Type 0
MeansNoFault = (bytes : List ℕ) (c : Context) (before : List Lexeme) (lexeme : Lexeme)
    (after : List Lexeme) (all some : List Meaning) (fault : TurtleFault)
    → AreMeanings bytes c (before ++ lexeme ∷ after) all → AreMeanings bytes c before some
    → IsMeaning bytes (context_from c before some) lexeme (Err fault) → ⊥

-- what was read has no fault
abbrev pub ReadHasNoFault : Type 0
ReadHasNoFault = (start : Start) (base bytes : List ℕ) (before : List Lexeme) (lexeme : Lexeme)
    (after : List Lexeme) (productions : List Production) (meanings : List Meaning) (reader : Reader)
    → IsReading start base bytes (before ++ lexeme ∷ after) productions meanings reader
    → HasNoFaultAfter start base bytes before (Ok (Some lexeme))
