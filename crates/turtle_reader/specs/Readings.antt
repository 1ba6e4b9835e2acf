-- A reader as its caller sees it: which lexemes it has read, what they mean, and what they
-- produced.
use Rattle.std.specs.Prelude.{◌≡◌, ◌⊎◌, ℕ, true, List, [], ◌∷◌, ◌++◌, length, Ok, Some}
use Rattle.std.specs.Prelude.{slice_get}
use Rattle.std.specs.List.{All}
use Rattle.turtle_grammar.specs.declared.production.Production.{Production}
use Rattle.turtle_grammar.specs.declared.production.SymbolicTriple.{SymbolicTriple}
use Rattle.turtle_grammar.specs.declared.production.Production.TheVariants.{Triple}
use Rattle.turtle_grammar.specs.declared.symbol.Start.{Start}
use Rattle.turtle_grammar.specs.Names.{Names}
use Rattle.turtle_grammar.specs.Readings.{HasRead, Avoids, produced_by}
use Rattle.turtle_terms.specs.declared.fault.TurtleFault.{TurtleFault}
use Rattle.turtle_terms.specs.declared.fault.TurtleFault.TheVariants.{Bad, TooLarge, NoMemory}
use Rattle.turtle_reader.specs.declared.lexeme.Lexeme.{Lexeme}
use Rattle.turtle_reader.specs.declared.meaning.Meaning.{Meaning}
use Rattle.turtle_reader.specs.declared.kept_meanings.KeptMeanings.{KeptMeanings}
use Rattle.turtle_reader.specs.declared.reader.Reader.{Reader}
use Rattle.turtle_reader.specs.declared.referent.ResolvedTriple.{ResolvedTriple}
use Rattle.turtle_reader.specs.Contexts.{at_start, context_from}
use Rattle.turtle_reader.specs.Faults.{IsLeastAfter}
use Rattle.turtle_reader.specs.Kept.{AreKept, Has, entries, is_referred_to}
use Rattle.turtle_reader.specs.Lexemes.{symbols_of}
use Rattle.turtle_reader.specs.Meanings.{AreMeanings}
use Rattle.turtle_reader.specs.Referents.{IsResolved}

-- The meaning of this lexeme is kept, or a production can't refer to it.
abbrev pub IsHeld : List Meaning → KeptMeanings → ℕ → Type 0
IsHeld meanings kept index = (meaning : Meaning) → slice_get meanings index ≡ Some meaning
    → is_referred_to meaning ≡ true → Has index (entries kept)

-- The same of each lexeme, or nothing unfinished names it: no later production does.
abbrev pub AreHeld : List Meaning → Reader → Type 0
AreHeld meanings reader = (index : ℕ) (meaning : Meaning)
    → slice_get meanings index ≡ Some meaning → is_referred_to meaning ≡ true
    → Has index (entries reader.kept) ⊎ Avoids index reader.machine

-- The reader has read these lexemes of the bytes, from the start symbol and the base on. It keeps
-- the meanings of those that a later production may name.
pub record IsReading (start : Start) (base bytes : List ℕ) (lexemes : List Lexeme)
    (productions : List Production) (meanings : List Meaning) (reader : Reader) : Type 0 where
  pub machine : HasRead start (symbols_of lexemes) productions reader.machine
  pub means : AreMeanings bytes (at_start base) lexemes meanings
  pub context : context_from (at_start base) lexemes meanings ≡ reader.context
  pub kept : AreKept meanings reader.kept
  pub held : AreHeld meanings reader
  pub read : reader.read ≡ length meanings

-- what the last lexeme produced
abbrev pub produced_last : Reader → List Production
produced_last reader = produced_by reader.machine

-- Whatever was read before, the lexeme was read after it, and those that its productions name are
-- kept.
abbrev pub ReadsOn : List ℕ → Lexeme → Reader → Reader → Type 0
ReadsOn bytes lexeme old new =
    (start : Start) (base : List ℕ) (lexemes : List Lexeme) (productions : List Production)
    (meanings : List Meaning) → IsReading start base bytes lexemes productions meanings old
    → (meaning : Meaning) × IsReading start base bytes (lexemes ++ lexeme ∷ [])
    (productions ++ produced_last new) (meanings ++ meaning ∷ []) new
    × All (Names (IsHeld (meanings ++ meaning ∷ []) new.kept)) (produced_last new)

-- Whatever was read, the lexemes that this triple names are kept.
abbrev pub NamesHeld : SymbolicTriple → Reader → Type 0
NamesHeld triple reader =
    (start : Start) (base bytes : List ℕ) (lexemes : List Lexeme) (productions : List Production)
    (meanings : List Meaning) → IsReading start base bytes lexemes productions meanings reader
    → Names (IsHeld meanings reader.kept) (Triple triple)

-- Whatever was read before, this is the fault of the lexeme after it.
abbrev pub HasFaultOn : List ℕ → Lexeme → Reader → TurtleFault → Type 0
HasFaultOn bytes lexeme old fault =
    (start : Start) (base : List ℕ) (lexemes : List Lexeme) (productions : List Production)
    (meanings : List Meaning) → IsReading start base bytes lexemes productions meanings old
    → IsLeastAfter start base bytes lexemes (Ok (Some lexeme)) fault

abbrev pub IsRefused : List ℕ → Lexeme → Reader → TurtleFault → Type 0
IsRefused bytes lexeme old (Bad at kind) = HasFaultOn bytes lexeme old (Bad at kind)
IsRefused bytes lexeme old (TooLarge at) = ⊥
IsRefused bytes lexeme old NoMemory = Unit {0}

-- Whatever was read, the nodes of the triple refer to this.
abbrev pub Resolves : SymbolicTriple → Reader → ResolvedTriple → Type 0
Resolves triple reader resolved =
    (start : Start) (base bytes : List ℕ) (lexemes : List Lexeme) (productions : List Production)
    (meanings : List Meaning) → IsReading start base bytes lexemes productions meanings reader
    → IsResolved meanings triple resolved
